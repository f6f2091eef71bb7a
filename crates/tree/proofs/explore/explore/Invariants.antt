use Rattle.std.proofs.Common.{◌≡◌, ◌-◌, ◌≤◌, length}
use Rattle.tree.specs.Private.Held.{best_known}
use Rattle.tree.specs.Private.Stack.{unvisited, Standing}
use Rattle.tree.proofs.Explorations.{Searching}
use Rattle.tree.proofs.explore.explore.Given as goal

abbrev pub invariant-loop-nodes : goal.invariant-loop-nodes
invariant-loop-nodes g l = record {
  table_len : l.trail.table_len ≡ length l.table.lots.now;
  standing : Standing l.table.capacity (length l.table.lots.now) (unvisited l.trail);
  searching : Searching (g.R.Rule.meaning l.rule) l.table.capacity l.table.lots.now (best_known l.best) (unvisited l.trail) l.nodes;
  within : l.nodes ≤ l.budget;
}

abbrev pub decreases-loop-nodes : goal.decreases-loop-nodes
decreases-loop-nodes g l = l.budget - l.nodes
