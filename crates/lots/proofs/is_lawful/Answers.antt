use Rattle.std.proofs.Common.{refl, subst, arith}
use Rattle.std.proofs.lemmas.Bool.{false≢true}
use Rattle.std.proofs.ByRecursion.{All-more, All-get_or}
use Rattle.std.proofs.lemmas.List.{take_all}
use Rattle.std.proofs.lemmas.Bool.Decides.{not_from_Decides}
use Rattle.std.specs.List.{AllByRecursion}
use Rattle.lots.specs.Tables.{LawfulLot}
use Rattle.lots.proofs.is_lawful.Goals as goal
use Rattle.lots.proofs.is_lawful.Goals.{then-number-ge-MAX_LOTS-via-then-number-ge-MAX_LOTS, then-number-ge-MAX_LOTS-via-else-number-ge-MAX_LOTS+then-not-is_lawful}

pub returns-then-number-ge-MAX_LOTS : goal.returns-then-number-ge-MAX_LOTS
returns-then-number-ge-MAX_LOTS c = record {
  answer = (
    λ e. absurd (false≢true e),
    λ ok. elim c.then-number-ge-MAX_LOTS.branch [
      | then-number-ge-MAX_LOTS-via-then-number-ge-MAX_LOTS w ↦ absurd (omega (arith, ok.few_lots, w.if-number-ge-MAX_LOTS.true))
      | then-number-ge-MAX_LOTS-via-else-number-ge-MAX_LOTS+then-not-is_lawful w ↦
          absurd (not_from_Decides _ w.is_lawful.ensures.answer w.if-not-is_lawful.true (All-get_or _ _ _ _ c.loop-number-test.true ok.each))
    ],
  );
}

pub loop-number-preserved : goal.loop-number-preserved
loop-number-preserved c = (
  omega arith,
  All-more _ _ _ _ c.loop-number-test.true c.loop-number.invariant.1 (c.is_lawful.ensures.answer.0 c.if-not-is_lawful.false),
)

pub returns : goal.returns
returns c = record {
  answer = (
    λ _. record {
      some_trays = omega arith;
      few_trays = omega arith;
      few_lots = omega arith;
      each = subst (AllByRecursion (LawfulLot c.args.capacity)) (take_all _ _ c.loop-number-test.false) c.loop-number.invariant.1;
    },
    λ _. refl,
  );
}
