use Rattle.std.proofs.Common.{◌≡◌, length, List}
use Rattle.lots.specs.declared.Lot.{Lot}
use Rattle.elastic.specs.Private.Points.{minutes_of}
use Rattle.elastic.specs.Private.Walks.{usable, Course, Known, state_at}
use Rattle.elastic.proofs.walk.walk_on.Given as goal

abbrev pub invariant-loop-place : goal.invariant-loop-place
invariant-loop-place l = record {
  long : length l.states ≡ length l.initial.states;
  here : l.state ≡ state_at l.states l.place;
  known : (T Ω : List Lot) → Course l.capacity l.beside.trays T Ω l.points → Known (usable l.capacity l.beside.trays l.beside.until) Ω (minutes_of l.points) l.initial.states l.from → Known (usable l.capacity l.beside.trays l.beside.until) Ω (minutes_of l.points) l.states l.place;
}
