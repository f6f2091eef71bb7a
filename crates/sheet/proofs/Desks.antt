-- What holds of the desk at every line of a sheet.
use Rattle.std.proofs.Common.{◌≡◌, ℕ, suc, ◌<◌, List, length, sym, refl, ap, subst, ◌∙◌, arith}
use Rattle.std.proofs.lemmas.List.{length_push, length-set}
use Rattle.std.proofs.lemmas.List.Elements.{length_all_zip}
use Rattle.std.proofs.ByRecursion.{All-push}
use Rattle.lots.specs.Tables.{Lawful, Table}
use Rattle.rule.specs.Meanings.{Meaning, Sound}
use Rattle.rule.proofs.Chains.{settled_kept}
use Rattle.rule.specs.declared.Verdict.{Verdict}
use Rattle.plan.specs.Calls.{Tightened}
use Rattle.plan.proofs.Histories.{one_tray}
use Rattle.plan.proofs.Tables.{empty_lawful, admitted_lawful, narrowed_lawful}
use Rattle.sheet.specs.Lines.{Line, machine, name, lot, narrow, tighten, solve, Bounded}
use Rattle.sheet.specs.Private.Desks.{Orderly}
use Rattle.sheet.specs.Sheets.{Desk, new_desk, head, Due, CarriesOut, desk_after}

pub new_orderly : Orderly new_desk
new_orderly = record {
  begun = omega arith;
  few = omega arith;
  none_said = λ e. refl;
  named = refl;
  short = tt;
  admitted = refl;
  lawful = empty_lawful 1 one_tray;
}

-- tightening keeps the plan lawful, and its lots
pub tightened_kept : (m : Meaning) → Sound m → (P Q : Table) (v : Verdict) (k : ℕ) → Lawful P.capacity P.lots → Tightened m P Q v k → Lawful Q.capacity Q.lots × (length Q.lots ≡ length P.lots)
tightened_kept m sound P Q v k ok t =
    let kept = settled_kept m sound P.capacity P.lots Q.lots ok v k t.settled in
    (subst (λ C. Lawful C Q.lots) (sym t.same_capacity) kept.lawful, sym (length_all_zip _ P.lots Q.lots kept.work))

-- a command leaves a lawful plan of as many lots
command_orderly : (D : Desk) (Q : Table) → head D.lots < D.line → Lawful Q.capacity Q.lots → length Q.lots ≡ length D.plan.lots → Orderly D → Orderly (record D { line = suc D.line; plan = Q })
command_orderly D Q due ok count o = record {
  begun = omega arith;
  few = o.few;
  none_said = λ e. absurd (omega (arith, o.begun));
  named = omega (arith, o.named);
  short = o.short;
  admitted = omega (arith, o.admitted, count);
  lawful = ok;
}

pub after_orderly : (m : Meaning) → Sound m → (D : Desk) (l : Line) (Q : Table) (out : List ℕ) → Bounded l → Due D l → CarriesOut m D l Q out → Orderly D → Orderly (desk_after D l Q)
after_orderly m sound D (machine C n) Q out within due r o = record {
  begun = omega arith;
  few = within.1;
  none_said = λ e. absurd (omega (arith, due));
  named = omega (arith, due);
  short = tt;
  admitted = ap (λ P. length P.lots) r.0.1 ∙ omega (arith, due);
  lawful = subst (λ U. Lawful U.capacity U.lots) (sym r.0.1) (empty_lawful C r.0.0);
}
after_orderly m sound D (name w) Q out within due r o = record {
  begun = omega arith;
  few = o.few;
  none_said = λ e. absurd (omega (arith, o.begun));
  named = omega (arith, length_push D.names w, o.named, due.0, due.1);
  short = All-push _ D.names w o.short within.1;
  admitted = ap (λ P. length P.lots) r.0 ∙ omega (arith, o.admitted, due.0, due.1);
  lawful = subst (λ U. Lawful U.capacity U.lots) (sym r.0) o.lawful;
}
after_orderly m sound D (lot i x) Q out within due r o = record {
  begun = omega arith;
  few = o.few;
  none_said = λ e. absurd (omega (arith, o.begun));
  named = omega (arith, o.named, due.0);
  short = o.short;
  admitted = ap (λ P. length P.lots) r.1.1.1 ∙ omega (arith, length_push D.plan.lots x, o.admitted, due.0, due.1);
  lawful = admitted_lawful x D.plan Q r.0 r.1 o.lawful;
}
after_orderly m sound D (narrow i from to) Q out within due r o =
    command_orderly D Q due (narrowed_lawful i from to D.plan Q r.0 o.lawful) (ap (λ P. length P.lots) r.0.1 ∙ length-set D.plan.lots i _) o
after_orderly m sound D tighten Q out within due r o =
    let kept = tightened_kept m sound D.plan Q r.0 r.1 o.lawful r.2 in
    command_orderly D Q due kept.0 kept.1 o
after_orderly m sound D (solve B) Q out within due r o =
    command_orderly D Q due (subst (λ U. Lawful U.capacity U.lots) (sym r.0) o.lawful) (ap (λ P. length P.lots) r.0) o
