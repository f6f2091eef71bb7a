-- One line of a sheet after another.
use Rattle.std.proofs.Common.{◌≡◌, ℕ, ◌<◌, List, [], ◌∷◌, ◌++◌, length, Ok, Err, Result, sym, refl, ap, subst, ◌∙◌, arith, length-append}
use Rattle.std.specs.Result.{IsErrAnd}
use Rattle.lots.specs.Limits.{max_lots}
use Rattle.lots.specs.declared.Lot.{Lot}
use Rattle.lots.specs.declared.Refusal.{Refusal}
use Rattle.lots.specs.declared.Refusal.TheVariants as refusal
use Rattle.rule.specs.Meanings.{Meaning, Sound}
use Rattle.rule.specs.declared.Verdict.{Verdict}
use Rattle.tree.specs.Answer.{Solved, max_trail}
use Rattle.tree.specs.declared.Search.{Search}
use Rattle.plan.specs.Calls.{Tightened}
use Rattle.lots.specs.Tables.{Table}
use Rattle.sheet.specs.Private.Desks.{Orderly, RoomFor}
use Rattle.sheet.specs.Lines.{Line, tighten, solve, written_line, newline, BeginsWithLine}
use Rattle.sheet.specs.Private.Pages.{HasRoom, Adds}
use Rattle.sheet.specs.PrintLines.{tighten_print, solve_print, refusal_print}
use Rattle.sheet.specs.Sheets.{Desk, new_desk, Due, BeginsWithDueLine, MayEnd, Full, whole_sheet, CarriesOut, Searched, Prints, ends, carried_out, refused, formless}
use Rattle.sheet.specs.Private.Steps.{Ready, CarriedOut, Took}
use Rattle.sheet.specs.declared.page.Page.{Page}
use Rattle.sheet.proofs.Desks.{after_orderly}
use Rattle.sheet.proofs.Lengths.{InTime, line_small, after_in_time, refused_short, carried_out_short}
use Rattle.sheet.proofs.Lines.{line_one}
use Rattle.sheet.proofs.Pages.{adds_then}

module _ (m : Meaning) (sound : Sound m) (D : Desk) (p : Page) where
  -- the page has room for what the line prints
  pub ready_room : (l : Line) → Ready D l p → (Q : Table) (out : List ℕ) → CarriesOut m D l Q out → HasRoom p out
  ready_room l ready Q out r = omega (arith, ready.room, carried_out_short m sound D l Q out ready.orderly ready.bounded ready.due ready.time r)

  pub tighten_room : Ready D tighten p → (P Q : Table) (v : Verdict) (k : ℕ) (names : List (List ℕ)) (T : List Lot) → P ≡ D.plan → names ≡ D.names → T ≡ Q.lots → Tightened m P Q v k → HasRoom p (tighten_print v k names T)
  tighten_room ready P Q v k names T e f g t =
      let here : Tightened m D.plan Q v k = subst (λ R. Tightened m R Q v k) e t in
      let print : tighten_print v k D.names Q.lots ≡ tighten_print v k names T = λ i. tighten_print v k (sym f i) (sym g i) in
      subst (HasRoom p) print (ready_room tighten ready Q (tighten_print v k D.names Q.lots) (v, k, here, refl))

  searched : (P : Table) (B : ℕ) (cs ds : List Lot) (ss us : List ℕ) (r : Result Search Refusal) → P ≡ D.plan → length cs ≡ max_trail → length ss ≡ max_lots → Solved m P.capacity P.lots B cs ds ss us r → Searched m D.plan B us r
  searched P B cs ds ss us r e cells places s = (cs, ds, ss, cells, places, subst (λ R. Solved m R.capacity R.lots B cs ds ss us r) e s)

  pub solve_room : (P : Table) (B : ℕ) (cs ds : List Lot) (ss us : List ℕ) (a : Search) (names : List (List ℕ)) → Ready D (solve B) p → P ≡ D.plan → names ≡ D.names → length cs ≡ max_trail → length ss ≡ max_lots
      → Solved m P.capacity P.lots B cs ds ss us (Ok a) → HasRoom p (solve_print a names us)
  solve_room P B cs ds ss us a names ready e f cells places s =
      subst (λ ws. HasRoom p (solve_print a ws us)) (sym f) (ready_room (solve B) ready D.plan (solve_print a D.names us) (refl, us, a, searched P B cs ds ss us (Ok a) e cells places s, refl))

  pub solve_refused : (P : Table) (B : ℕ) (cs ds : List Lot) (ss us : List ℕ) (e : Refusal) (r : Result (Unit {0}) Refusal) → P ≡ D.plan → length cs ≡ max_trail → length ss ≡ max_lots
      → Solved m P.capacity P.lots B cs ds ss us (Err e) → IsErrAnd r (λ d. d ≡ e) → CarriedOut m D (solve B) D p p r
  solve_refused P B cs ds ss us e (Ok x) is cells places s h = absurd h
  solve_refused P B cs ds ss us e (Err d) is cells places s h = ((us, searched P B cs ds ss us (Err d) is cells places (subst (λ f. Solved m P.capacity P.lots B cs ds ss us (Err f)) (sym h) s)), refl, refl)

module _ (m : Meaning) (D : Desk) (bs : List ℕ) (goes_on : (bs ≡ []) → MayEnd D → ⊥) where
  -- what a text prints that may not end, and begins with no line that is due
  pub no_line : ((l : Line) (rest : List ℕ) → BeginsWithLine bs l rest → ⊥) → Prints m D bs (refusal_print refusal.Line D.line)
  no_line none = formless goes_on (λ l rest b. none l rest b.0)

  pub not_due : (l : Line) (rest : List ℕ) → BeginsWithLine bs l rest → (Due D l → ⊥) → Prints m D bs (refusal_print refusal.Line D.line)
  not_due l rest b other = formless goes_on (λ k more c. other (subst (Due D) (sym (line_one bs l k rest more b c.0).0) c.1))

-- what came of its first line, where that line was carried out or refused
pub took_line : (m : Meaning) (D : Desk) (bs : List ℕ) (l : Line) (rest : List ℕ) (E : Desk) (p q : Page) (r : Result (Unit {0}) Refusal) → BeginsWithDueLine D bs l rest → (Full D → ⊥) → CarriedOut m D l E p q r → Took m D bs E rest p q r
took_line m D bs l rest E p q (Ok x) b n ran = (l, b, n, ran)
took_line m D bs l rest E p q (Err e) b n ran = (refused l rest e b n ran.0, ran.1, ran.2)

-- after a line that was carried out: whatever the rest prints is what is left to be printed of the whole text
pub record Next (m : Meaning) (D : Desk) (bs : List ℕ) (E : Desk) (rest : List ℕ) (p q : Page) : Type 0 where
  pub orderly : Orderly E
  pub time : InTime E
  pub room : RoomFor E q
  pub prints : (out : List ℕ) (r : Page) → Prints m E rest out → Adds q out r → (all : List ℕ) × Prints m D bs all × Adds p all r
  pub shorter : length rest < length bs

pub took_next : (m : Meaning) → Sound m → (D : Desk) (bs : List ℕ) (E : Desk) (rest : List ℕ) (p q : Page) → Orderly D → RoomFor D p → Took m D bs E rest p q (Ok tt) → Next m D bs E rest p q
took_next m sound D bs E rest p q o room (l, b, n, (Q, out, r, is, adds)) =
    subst (λ F. Next m D bs F rest p q) (sym is) (record {
      orderly = after_orderly m sound D l Q out b.0.1 b.1 r o;
      time = after_in_time D l Q o b.1 n;
      room = omega (arith, room, adds.longer, adds.same_size, carried_out_short m sound D l Q out o b.0.1 b.1 n r);
      prints = λ more s printed added. (out ++ more, carried_out l Q out more b n r printed, adds_then adds added);
      shorter = omega (arith, ap length b.0.0, length-append (written_line l) (newline ∷ rest));
    })

-- there is room for a refusal after all commands
pub refusal_room : (D : Desk) (p : Page) (e : Refusal) → Orderly D → InTime D → RoomFor D p → HasRoom p (refusal_print e D.line)
refusal_room D p e o time room = omega (arith, room, refused_short e D.line (line_small D o time))

-- what is left after a line that was refused
pub refused_room : (D E : Desk) (p q : Page) (e : Refusal) (k : ℕ) → Orderly D → InTime D → RoomFor D p → E ≡ D → q ≡ p → k ≡ E.line → HasRoom q (refusal_print e k)
refused_room D E p q e k o time room same stays number =
    subst (λ r. HasRoom r (refusal_print e k)) (sym stays) (subst (λ n. HasRoom p (refusal_print e n)) (sym (number ∙ ap (λ (F : Desk). F.line) same)) (refusal_room D p e o time room))

-- nothing more is printed at the end of a sheet
pub prints_end : (m : Meaning) (D : Desk) (bs : List ℕ) → bs ≡ [] → MayEnd D → Prints m D bs []
prints_end m D bs none may = subst (λ cs. Prints m D cs []) (sym none) (ends may)

pub long_room : (p : Page) → RoomFor new_desk p → HasRoom p (refusal_print refusal.SheetLength whole_sheet)
long_room p room = omega (arith, room, refused_short refusal.SheetLength whole_sheet (omega arith))
