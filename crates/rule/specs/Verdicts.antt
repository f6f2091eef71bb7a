-- The word for each verdict.
use Rattle.std.specs.Prelude.{ℕ, List, codes}
use Rattle.rule.specs.declared.Verdict.{Verdict}
use Rattle.rule.specs.declared.Verdict.TheVariants.{Still, Moved, Dead}

abbrev pub shown_verdict : Verdict → List ℕ
shown_verdict Still = codes "still"
shown_verdict Moved = codes "moved"
shown_verdict Dead = codes "dead"
