use Rattle.std.proofs.Common.{sym, ap, subst, length, arith}
use Rattle.elastic.specs.Private.Points.{minutes_of}
use Rattle.elastic.specs.Private.Walks.{usable, Course, Known}
use Rattle.elastic.proofs.Held.{added, few_points, course, added_fit}
use Rattle.elastic.proofs.Kept.{overflow_reached}
use Rattle.elastic.proofs.profile.Profile.walk.Goals as goal
use Rattle.elastic.proofs.profile.Profile.walk.Goals.{After-walk_on}

pub walk_on-requires-clause-places : goal.walk_on-requires-clause-places
walk_on-requires-clause-places c =
    let p = c.args.self.now in
    (omega (arith, c.fresh_beside-self.ensures.few, p.some_fresh), omega (arith, p.within, ap length c.as_slice.ensures.points), omega (arith, p.within, few_points p))

pub walk_on-requires-clause-course : goal.walk_on-requires-clause-course
walk_on-requires-clause-course c =
    let p = c.args.self.now in (
      p.table.lots.now,
      added p,
      subst (Course p.table.capacity c.args.beside.trays p.table.lots.now (added p)) (sym c.as_slice.ensures.points) (course p c.args.beside.trays c.requires.fits),
      rw c.as_slice.ensures.points c.fresh_beside-self.ensures.known,
    )

-- the whole walk is known
known_all : (c : After-walk_on) → Known (usable c.args.self.now.table.capacity c.args.beside.trays c.args.beside.until) (added c.args.self.now) (minutes_of c.args.self.now.points.row) c.walk_on.new.states c.args.self.now.reach
known_all c =
    let p = c.args.self.now in
    let told = c.walk_on.ensures.known p.table.lots.now (added p) in
    rw c.as_slice.ensures.points at told (course p c.args.beside.trays c.requires.fits) c.fresh_beside-self.ensures.known

pub invariant_of-self : goal.invariant_of-self
invariant_of-self c =
    let p = c.args.self.now in
    record {
      profiles = p.profiles;
      placed = p.placed;
      counts = p.counts;
      fits = c.requires.fits;
      known = known_all c;
      some_fresh = omega arith;
      within = p.within;
      past_all = p.past_all;
    }

pub bounds-self-self : goal.bounds-self-self
bounds-self-self c = omega (arith, c.args.self.now.within, few_points c.args.self.now)

pub returns-clause-answer : goal.returns-clause-answer
returns-clause-answer c =
    let p = c.args.self.now in
    let told = c.walk_on.ensures.known p.table.lots.now (added p) in
    let known = rw c.as_slice.ensures.points at told (course p c.args.beside.trays c.requires.fits) c.fresh_beside-self.ensures.known in
    overflow_reached p.table.capacity c.args.beside.trays c.args.beside.until (added p) (minutes_of p.points.row) p.reach _ c.requires.fits (added_fit p) p.past_all (known p.reach (omega arith))
