use Rattle.std.proofs.Common.{◌≡◌, [], length, take, inl, inr}
use Rattle.sheet.specs.Private.Pages.{bytes_of}
use Rattle.sheet.specs.PrintLines.{start_lines}
use Rattle.sheet.proofs.Pages.{room_past, adds_past, adds_none}
use Rattle.sheet.proofs.PrintLines.{starts_from, no_starts, no_starts_unnamed}
use Rattle.sheet.proofs.print.print_starts.Goals as goal

pub loop-name-preserved : goal.loop-name-preserved
loop-name-preserved c =
    let steps = c.in-Some.ensures.steps in
    let lines = starts_from _ _ _ _ c.in-Some.name.now c.in-Some.start.now c.from.result steps.0 steps.1 c.from.ensures in
    record {
      same_buffer = cc;
      room = room_past _ _ _ lines c.loop-name.invariant.room c.print_named.ensures.adds;
      adds = λ q a. c.loop-name.invariant.adds q (adds_past lines c.print_named.ensures.adds a);
    }

pub returns-clause-adds : goal.returns-clause-adds
returns-clause-adds c =
    let left = c.loop-name.name-iterator in
    let none : start_lines (bytes_of left.a.rest.now) (take (length left.a.rest.now) left.b.rest.now) ≡ [] =
    elim c.in-None.ensures.steps [ inl h ↦ no_starts_unnamed left.a.rest.now left.b.rest.now h.1.0 | inr h ↦ no_starts left.a.rest.now left.b.rest.now h.1.0 ] in
    c.loop-name.invariant.adds c.loop-name.page (adds_none none)
