use Rattle.std.proofs.Common.{rules}
use Rattle.lots.specs.Texts.{space}
use Rattle.console.specs.Lines.{overflow_call, rule_call, open_call, admit_call, narrow_call, tighten_call, solve_call, windows_call}
use Rattle.console.specs.Syntax.{pieces}
use Rattle.console.proofs.Asked.{makes_line}
use Rattle.console.proofs.Texts.{text_from_known}
use Rattle.console.proofs.calls.call.Goals as goal

pub returns-in_err-text : goal.returns-in_err-text
returns-in_err-text c = record { answer = search (rules, text_from_known c.args.line.now) }

pub returns-in-Some-overflow : goal.returns-in-Some-overflow
returns-in-Some-overflow c = record { answer = makes_line overflow_call (pieces space c.args.line.now) c.next.new.self _ _ c.overflow.result (search rules) (c.overflow.ensures.answer _) }

pub returns-in-Some-rule : goal.returns-in-Some-rule
returns-in-Some-rule c = record { answer = makes_line rule_call (pieces space c.args.line.now) c.next.new.self _ _ c.rule.result (search rules) (c.rule.ensures.answer _) }

pub returns-in-Some-open : goal.returns-in-Some-open
returns-in-Some-open c = record { answer = makes_line open_call (pieces space c.args.line.now) c.next.new.self _ _ c.open.result (search rules) c.open.ensures.answer }

pub returns-in-Some-admit : goal.returns-in-Some-admit
returns-in-Some-admit c = record { answer = makes_line admit_call (pieces space c.args.line.now) c.next.new.self _ _ c.admit.result (search rules) c.admit.ensures.answer }

pub returns-in-Some-narrow : goal.returns-in-Some-narrow
returns-in-Some-narrow c = record { answer = makes_line narrow_call (pieces space c.args.line.now) c.next.new.self _ _ c.narrow.result (search rules) c.narrow.ensures.answer }

pub returns-in-Some-tighten : goal.returns-in-Some-tighten
returns-in-Some-tighten c = record { answer = makes_line tighten_call (pieces space c.args.line.now) c.next.new.self _ _ c.tighten.result (search rules) c.tighten.ensures.answer }

pub returns-in-Some-solve : goal.returns-in-Some-solve
returns-in-Some-solve c = record { answer = makes_line solve_call (pieces space c.args.line.now) c.next.new.self _ _ c.solve.result (search rules) c.solve.ensures.answer }

pub returns-in-Some-windows : goal.returns-in-Some-windows
returns-in-Some-windows c = record { answer = makes_line windows_call (pieces space c.args.line.now) c.next.new.self _ _ c.windows.result (search rules) c.windows.ensures.answer }
