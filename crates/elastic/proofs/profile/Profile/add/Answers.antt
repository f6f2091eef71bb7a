use Rattle.std.proofs.Common.{ℕ, ◌+◌, ◌<◌, ◌≤◌, max, true, ◌++◌, length, set, sym, ap, ◌∙◌, subst, arith}
use Rattle.std.proofs.lemmas.List.{length-map}
use Rattle.lots.specs.Tables.{lot_at}
use Rattle.lots.proofs.Tables.{lawful_under_most}
use Rattle.elastic.specs.Marked.{marked_lots}
use Rattle.elastic.specs.Profile.{latest, minutes}
use Rattle.elastic.specs.Private.Counted.{Counted}
use Rattle.elastic.specs.Private.Points.{HasMinute, HavePlaces, Profiles, max_points, minutes_of, places_at}
use Rattle.elastic.specs.Private.Walks.{usable, reached, Stands, state_at, Known}
use Rattle.elastic.specs.declared.profile.Profile.{Profile}
use Rattle.elastic.proofs.Counting.{counted_lot}
use Rattle.elastic.proofs.Counts.{points_few}
use Rattle.elastic.proofs.Entering.{minute}
use Rattle.elastic.proofs.Held.{few_points}
use Rattle.elastic.proofs.Kept.{known_added, passed_added, minutes_differ}
use Rattle.elastic.proofs.Marked.{marked_lots-set, some_missing}
use Rattle.elastic.proofs.Profiles.{minutes_append}
use Rattle.elastic.proofs.profile.Profile.add.Goals as goal

place_within : (p : Profile) (i t : ℕ) → HasMinute (minutes_of p.points.row) i t → i < max_points
place_within p i t at = omega (arith, at.0, length-map p.points.row minute, few_points p)

-- fewer points than fit are counted where a lot is missing
count_few : (p : Profile) → length (marked_lots p.added p.table.lots.now) < length p.table.lots.now → p.counted.count + 2 < max_points
count_few p h = omega (arith, p.counts.count, points_few (marked_lots p.added p.table.lots.now), h, (lawful_under_most _ _ p.table.lawful).few_lots)

pub add-requires-clause-few : goal.add-requires-clause-few
add-requires-clause-few c = few_points c.args.self.now

pub add-requires-clause-profile : goal.add-requires-clause-profile
add-requires-clause-profile c =
    let p = c.args.self.now in
    let lawful = lawful_under_most _ _ p.table.lawful in
    (_, _, omega (arith, some_missing p.added p.table.lots.now c.args.number c.if-number-lots.true c.if-not-self-number.true, lawful.few_lots), p.profiles)

pub add-requires-then-not-self-number : goal.add-requires-then-not-self-number
add-requires-then-not-self-number c =
    let p = c.args.self.now in
    let places = p.placed c.args.number c.if-number-lots.true in
    record {
      within = place_within p _ _ places.lct;
      few = omega (arith, count_few p (some_missing p.added p.table.lots.now c.args.number c.if-number-lots.true c.if-not-self-number.true));
    }

pub add-requires-then-not-self-number-2 : goal.add-requires-then-not-self-number-2
add-requires-then-not-self-number-2 c =
    let p = c.args.self.now in
    let places = p.placed c.args.number c.if-number-lots.true in
    record {
      within = place_within p _ _ places.ect;
      few = omega (arith, c.add-then-not-self-number.ensures.more, count_few p (some_missing p.added p.table.lots.now c.args.number c.if-number-lots.true c.if-not-self-number.true));
    }

pub add-requires-then-not-self-number-3 : goal.add-requires-then-not-self-number-3
add-requires-then-not-self-number-3 c =
    let p = c.args.self.now in
    let places = p.placed c.args.number c.if-number-lots.true in
    record {
      within = place_within p _ _ places.est;
      few = omega (arith, c.add-then-not-self-number.ensures.more, c.add-then-not-self-number-2.ensures.more, count_few p (some_missing p.added p.table.lots.now c.args.number c.if-number-lots.true c.if-not-self-number.true));
    }

pub overflow_add-places : goal.overflow_add-places
overflow_add-places c =
    let p = c.args.self.now in
    let places = p.placed c.args.number c.if-number-lots.true in
    omega (arith, place_within p _ _ places.lct)

pub invariant_of-self : goal.invariant_of-self
invariant_of-self c =
    let p = c.args.self.now in
    let T = p.table.lots.now in
    let all = marked_lots (set p.added c.args.number true) T in
    let U = usable p.table.capacity p.beside.trays p.beside.until in
    let us = minutes_of p.points.row in
    let lawful = lawful_under_most _ _ p.table.lawful in
    let marks : c.args.number < length p.added = omega (arith, c.if-number-lots.true, lawful.few_lots) in
    let r = marked_lots-set p.added T c.args.number c.if-number-lots.true marks c.if-not-self-number.true in
    let places = p.placed c.args.number c.if-number-lots.true in
    let up = p.profiles.gathers.rising in
    let differ = minutes_differ p.points.row up in
    let before : Counted us (minutes r.before ++ minutes r.after) p.counted.marks p.counted.count = subst (λ ts. Counted us ts p.counted.marks p.counted.count) (ap minutes r.without ∙ minutes_append r.before r.after) p.counts in
    let one = c.add-then-not-self-number.ensures.after us (minutes r.before) (minutes r.after) differ places.lct.0 before in
    let two = c.add-then-not-self-number-2.ensures.after us (minutes r.before) _ differ places.ect.0 one in
    let three = c.add-then-not-self-number-3.ensures.after us (minutes r.before) _ differ places.est.0 two in
    record {
      profiles = subst (Profiles _ T) (sym r.with_it) (c.add.ensures.after T _ _ (subst (Profiles _ T) r.without p.profiles));
      placed = subst (λ vs. HavePlaces vs T p.places) (sym c.add.ensures.minutes) p.placed;
      counts =
          subst (λ vs. Counted vs (minutes all) c.add-then-not-self-number-3.new.self.marks c.add-then-not-self-number-3.new.self.count) (sym c.add.ensures.minutes)
          (subst (λ Ω. Counted us (minutes Ω) c.add-then-not-self-number-3.new.self.marks c.add-then-not-self-number-3.new.self.count) (sym r.with_it) (counted_lot us r.before r.after (lot_at T c.args.number) (places_at p.places c.args.number) _ _ places three));
      fits = p.fits;
      known = λ j h.
          let old = subst (λ Ω. Known U Ω us p.states p.fresh) r.without p.known in
          let here = known_added U r.before r.after (lot_at T c.args.number) p.points.row up p.states p.fresh _ places.est old j (omega (arith, h, c.min-self.ensures)) in
          subst (λ vs. Stands U all vs j (state_at p.states j)) (sym c.add.ensures.minutes) (subst (λ Ω. Stands U Ω us j (state_at p.states j)) (sym r.with_it) here);
      some_fresh = omega (arith, c.min-self.ensures, c.max-self.ensures, p.some_fresh);
      within = omega (arith, c.max-self.ensures, p.within, places.lct.0, length-map p.points.row minute, length-map c.add.new.self.row minute, ap length c.add.ensures.minutes);
      past_all =
          let passed = passed_added p.points.row up r.before r.after (lot_at T c.args.number) p.reach _ p.within places.lct (subst (λ Ω. latest Ω ≤ reached us p.reach) r.without p.past_all) in
          subst (λ n. latest all ≤ reached (minutes_of c.add.new.self.row) n) (sym c.max-self.ensures)
          (subst (λ vs. latest all ≤ reached vs (max p.reach ((places_at p.places c.args.number).lct + 1))) (sym c.add.ensures.minutes)
          (subst (λ Ω. latest Ω ≤ reached us (max p.reach ((places_at p.places c.args.number).lct + 1))) (sym r.with_it) passed));
    }
