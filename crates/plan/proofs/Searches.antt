-- What a search of a plan says is right for its book.
use Rattle.std.proofs.Common.{◌≡◌, ℕ, ◌<◌, min, List, length, take, subst, arith}
use Rattle.std.specs.Prelude.{◌↔◌}
use Rattle.tree.specs.Tree.{BestKnown}
use Rattle.tree.specs.Answer.{nodes, Told, Right}
use Rattle.tree.specs.declared.Search.{Search}
use Rattle.tree.specs.declared.Search.TheVariants.{Best, None, Spent}
use Rattle.tree.proofs.Means.{told_right, told_few}
use Rattle.lots.specs.Tables.{Lawful, Table}
use Rattle.lots.specs.Schedules.{BestSchedule}
use Rattle.rule.specs.Meanings.{Hopeless}
use Rattle.plan.specs.Promise.{IsSpent, Searches}

-- an answer that is right for T is right for B, where both have as many lots and the same bests
module _ (B T : Table) (count : length T.lots ≡ length B.lots) (bests : (E : ℕ) (ss : List ℕ) → BestSchedule T.capacity T.lots E ss → BestSchedule B.capacity B.lots E ss) (hopeless : Hopeless T.capacity T.lots → Hopeless B.capacity B.lots) where
  right_for : (us : List ℕ) (a : Search) → Right T.capacity T.lots us a → Right B.capacity B.lots us a
  right_for us (Best e k) r = subst (λ n. BestSchedule B.capacity B.lots e (take n us)) count (bests e _ r)
  right_for us (None k) r = hopeless r
  right_for us (Spent k) r = tt

told_counted : (n budget : ℕ) (bs : List BestKnown) (ss us : List ℕ) (a : Search) → Told n budget bs ss us a → nodes a ≡ min budget (length bs)
told_counted n budget bs ss us (Best e k) t = omega arith
told_counted n budget bs ss us (None k) t = omega arith
told_counted n budget bs ss us (Spent k) t = omega arith

told_spent : (n budget : ℕ) (bs : List BestKnown) (ss us : List ℕ) (a : Search) → Told n budget bs ss us a → IsSpent a ↔ ((nodes a ≡ budget) × (budget < length bs))
told_spent n budget bs ss us (Best e k) t = (λ s. absurd s, λ h. omega arith)
told_spent n budget bs ss us (None k) t = (λ s. absurd s, λ h. omega arith)
told_spent n budget bs ss us (Spent k) t = (λ s. (t.0, t.1), λ h. tt)

pub searches : (B T : Table) → Lawful T.capacity T.lots → length T.lots ≡ length B.lots → ((E : ℕ) (ss : List ℕ) → BestSchedule T.capacity T.lots E ss → BestSchedule B.capacity B.lots E ss) → (Hopeless T.capacity T.lots → Hopeless B.capacity B.lots) → Searches B T
searches B T ok count bests hopeless m sound budget cs ds ss us a (passed, (wiped, (bs, v, t))) = record {
  right = right_for B T count bests hopeless us a (told_right m sound T.capacity budget T.lots ok bs v ss us a t);
  visit = bs;
  visited = v;
  counted = told_counted _ budget bs ss us a t;
  few = told_few m sound T.capacity budget T.lots ok bs v ss us a t;
  spent = told_spent _ budget bs ss us a t;
}
