use Rattle.std.proofs.Common.{◌≡◌, [], map, replicate, ◌+◌, sym, ap, ◌∙◌, subst, arith}
use Rattle.lots.specs.Limits.{max_lots}
use Rattle.elastic.specs.Profile.{latest, minutes}
use Rattle.elastic.specs.Private.Counted.{Counted}
use Rattle.elastic.specs.Private.Points.{max_points, Profiles, HavePlaces, minutes_of, unchanging_point}
use Rattle.elastic.proofs.Kept.{stands_zero, stands_start}
use Rattle.elastic.proofs.Marked.{marked_lots-none, none_marked}
use Rattle.elastic.proofs.Profiles.{minutes_cleared, profiles_cleared}
use Rattle.elastic.proofs.profile.Profile.new.Goals as goal

pub invariant_of-result : goal.invariant_of-result
invariant_of-result c =
    let T = c.args.table.lots.now in
    let none = marked_lots-none max_lots T in
    let cleared : c.clear.new.self.row ≡ map unchanging_point c.of-points.result.row = c.clear.ensures.after ∙ ap (map unchanging_point) c.places-places.ensures.same in
    let same : minutes_of c.clear.new.self.row ≡ minutes_of c.of-points.result.row = ap minutes_of cleared ∙ minutes_cleared c.of-points.result.row in
    record {
      profiles = subst (Profiles _ T) (sym none) (subst (λ ps. Profiles ps T []) (sym cleared) (profiles_cleared _ T T c.of-points.ensures.profiles));
      placed = subst (λ us. HavePlaces us T c.places-places.result) (sym same) c.places-places.ensures.places;
      counts = subst (λ Ω. Counted (minutes_of c.clear.new.self.row) (minutes Ω) c.none.result.marks c.none.result.count) (sym none) (c.none.ensures.answer _);
      fits = omega arith;
      known = λ j h. stands_start _ (λ t. 0) _ [] _ [] (replicate (max_points + 1) c.default.result) (stands_zero (λ t. 0) [] [] c.default.result (omega arith, omega arith, omega arith, omega arith)) j h;
      some_fresh = omega arith;
      within = omega arith;
      past_all = omega (arith, ap latest none);
    }

pub returns-clause-none : goal.returns-clause-none
returns-clause-none c = none_marked max_lots
