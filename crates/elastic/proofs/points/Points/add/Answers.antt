use Rattle.std.proofs.Common.{refl, arith}
use Rattle.lots.specs.Limits.{max_capacity}
use Rattle.elastic.specs.Profile.{minutes}
use Rattle.elastic.proofs.Entering.{altered_at, small_at, gathers_same}
use Rattle.elastic.proofs.Profiles.{small_at_est, small_at_ect, changes_between}
use Rattle.elastic.proofs.points.Points.add.Goals as goal

pub alter-requires-clause-small : goal.alter-requires-clause-small
alter-requires-clause-small c =
    let p = c.requires.profile.3 in
    small_at _ _ refl _ _ c.requires.places.est _ _ (omega (arith, c.requires.profile.2)) p.changes.small

pub alter-requires-2-clause-small : goal.alter-requires-2-clause-small
alter-requires-2-clause-small c =
    let p = c.requires.profile.3 in
    let one = altered_at _ _ refl _ _ c.requires.places.est _ _ _ c.at_est.ensures.answer refl c.alter.ensures.after in
    let small = one.changed.small _ max_capacity p.changes.small (small_at_est _ c.requires.lawful) in
    small_at _ _ one.minutes _ _ c.requires.places.ect _ _ (omega (arith, c.requires.profile.2)) small

pub alter-requires-3-clause-small : goal.alter-requires-3-clause-small
alter-requires-3-clause-small c =
    let p = c.requires.profile.3 in
    let one = altered_at _ _ refl _ _ c.requires.places.est _ _ _ c.at_est.ensures.answer refl c.alter.ensures.after in
    let two = altered_at _ _ one.minutes _ _ c.requires.places.ect _ _ _ c.at_ect.ensures.answer refl c.alter-2.ensures.after in
    let small = two.changed.small _ max_capacity (one.changed.small _ max_capacity p.changes.small (small_at_est _ c.requires.lawful)) (small_at_ect _ c.requires.lawful) in
    small_at _ _ two.minutes _ _ c.requires.places.lct _ _ (omega (arith, c.requires.profile.2)) small

pub returns : goal.returns
returns c =
    let one = altered_at _ _ refl _ _ c.requires.places.est _ _ _ c.at_est.ensures.answer refl c.alter.ensures.after in
    let two = altered_at _ _ one.minutes _ _ c.requires.places.ect _ _ _ c.at_ect.ensures.answer refl c.alter-2.ensures.after in
    let three = altered_at _ _ two.minutes _ _ c.requires.places.lct _ _ _ c.at_lct.ensures.answer refl c.alter-3.ensures.after in
    record {
      minutes = three.minutes;
      after = λ T Ω Ψ p. record {
        gathers = gathers_same _ _ three.minutes (minutes T) p.gathers;
        changes = changes_between _ _ _ _ _ c.requires.lawful one.changed two.changed three.changed Ω Ψ p.changes;
      };
    }
