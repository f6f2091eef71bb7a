-- Overload finds no schedule where it is dead.
use Rattle.std.specs.Prelude.{◌≡◌, ℕ, Bool, true, List, [], ◌∷◌, nat_le}
use Rattle.std.proofs.Common.{inl, inr, arith}
use Rattle.std.proofs.lemmas.Bool.{ltb-true, or_cases, false≢true}
use Rattle.lots.specs.declared.Lot.{Lot}
use Rattle.elastic.specs.Profile.{overflow}
use Rattle.elastic.proofs.Soundness.{overflow_of_schedulable}
use Rattle.rule.specs.Meanings.{Narrower, LawfulSameWork, Keeps, Hopeless, Sound, to}
use Rattle.rule.specs.Laws.Outcomes.{gives_either, dies_either}
use Rattle.rule.specs.Laws.Tables.{same_work_refl, narrower_refl}
use Rattle.rules.specs.Chosen.{chosen_lots, is_overfull}
use Rattle.rules.specs.Overload.{ends_of, due_lots, some_overfull, overload}
use Rattle.rules.specs.Laws.ChosenLots.{chosen_schedule}

-- lots of which some are overfull have no schedule
overfull_hopeless : (test : ℕ → Lot → Bool) (C : ℕ) (T : List Lot) → is_overfull C (chosen_lots test 0 T) ≡ true → Hopeless C T
overfull_hopeless test C T full ss s =
    omega (arith, ltb-true 0 (overflow C (chosen_lots test 0 T)) full, overflow_of_schedulable C (chosen_lots test 0 T) _ (chosen_schedule test C T ss s))

some_hopeless : (C : ℕ) (T : List Lot) (ts : List ℕ) → some_overfull C T ts ≡ true → Hopeless C T
some_hopeless C T [] h = absurd (false≢true h)
some_hopeless C T (t ∷ ts) h = elim (or_cases (is_overfull C (due_lots t T)) (some_overfull C T ts) h) [
  | inl full ↦ overfull_hopeless (λ k x. nat_le x.lct t) C T full
  | inr more ↦ some_hopeless C T ts more
]

pub overload_sound : Sound overload
overload_sound = record {
  lawful = λ C T ok. gives_either (to T) (LawfulSameWork C T) (some_overfull C T (ends_of T)) (ok, same_work_refl T);
  narrows = λ C T ok. gives_either (to T) (Narrower T) (some_overfull C T (ends_of T)) (narrower_refl T);
  keeps = λ C T ok. gives_either (to T) (Keeps C T) (some_overfull C T (ends_of T)) (λ ss s. s);
  dies_rightly = λ C T ok. dies_either (to T) (Hopeless C T) (some_overfull C T (ends_of T)) (some_hopeless C T (ends_of T)) tt;
}
