-- What is known of a profile.
use Rattle.std.proofs.Common.{ℕ, ◌≤◌, List, length, arith}
use Rattle.std.proofs.ByRecursion.{All-weaker}
use Rattle.lots.specs.Limits.{max_capacity}
use Rattle.lots.specs.Tables.{Fits, LawfulLot}
use Rattle.lots.specs.declared.Lot.{Lot}
use Rattle.lots.proofs.Tables.{lawful_under_most}
use Rattle.elastic.specs.Marked.{marked_lots}
use Rattle.elastic.specs.Private.Points.{max_points}
use Rattle.elastic.specs.Private.Walks.{Course}
use Rattle.elastic.specs.declared.profile.Profile.{Profile}
use Rattle.elastic.proofs.Marked.{Lawful-marked_lots}
use Rattle.elastic.proofs.Profiles.{points_within}

module _ (p : Profile) where
  abbrev pub added : List Lot
  added = marked_lots p.added p.table.lots.now

  pub few_points : length p.points.row ≤ max_points
  few_points = points_within _ _ _ p.profiles (lawful_under_most _ _ p.table.lawful).few_lots

  pub few_passed : p.fresh ≤ max_points
  few_passed = omega (arith, few_points, p.some_fresh, p.within)

  pub course : (c : ℕ) → c ≤ p.table.capacity → Course p.table.capacity c p.table.lots.now added p.points.row
  course c fits = record {
    table = lawful_under_most _ _ p.table.lawful;
    lots = Lawful-marked_lots p.added _ _ p.table.lawful;
    profiles = p.profiles;
    fits = fits;
  }

  pub added_fit : Fits added
  added_fit = All-weaker _ _ (λ (x : Lot) (ok : LawfulLot max_capacity x). ok.has_time) added (Lawful-marked_lots p.added _ _ p.table.lawful).each
