use Rattle.std.proofs.Common.{◌≡◌, [], sym, ap, ◌∙◌, subst, arith}
use Rattle.lots.specs.Limits.{max_lots}
use Rattle.elastic.specs.Profile.{latest, minutes}
use Rattle.elastic.specs.Private.Counted.{Counted}
use Rattle.elastic.specs.Private.Points.{Profiles, HavePlaces, minutes_of}
use Rattle.elastic.proofs.Kept.{stands_start}
use Rattle.elastic.proofs.Marked.{marked_lots-none, none_marked}
use Rattle.elastic.proofs.Profiles.{minutes_cleared, profiles_cleared}
use Rattle.elastic.proofs.profile.Profile.clear.Goals as goal

pub invariant_of-self : goal.invariant_of-self
invariant_of-self c =
    let p = c.args.self.now in
    let T = p.table.lots.now in
    let none = marked_lots-none max_lots T in
    let same : minutes_of c.clear.new.self.row ≡ minutes_of p.points.row = ap minutes_of c.clear.ensures.after ∙ minutes_cleared p.points.row in
    record {
      profiles = subst (Profiles _ T) (sym none) (subst (λ ps. Profiles ps T []) (sym c.clear.ensures.after) (profiles_cleared _ T _ p.profiles));
      placed = subst (λ us. HavePlaces us T p.places) (sym same) p.placed;
      counts = subst (λ Ω. Counted (minutes_of c.clear.new.self.row) (minutes Ω) c.none-self.result.marks c.none-self.result.count) (sym none) (c.none-self.ensures.answer _);
      fits = p.fits;
      known = λ j h. stands_start _ _ _ _ _ _ p.states (p.known 0 (omega arith)) j h;
      some_fresh = omega arith;
      within = omega arith;
      past_all = omega (arith, ap latest none);
    }

pub returns-clause-none : goal.returns-clause-none
returns-clause-none c = none_marked max_lots
