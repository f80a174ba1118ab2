use Rattle.std.proofs.Common.{◌≡◌, ℕ, ◌<◌, ◌≤◌}
use Rattle.plan.specs.declared.block.Array.TheVariants.{Ends, VertexHalves}
use Rattle.plan.specs.Layout.{reads}
use Rattle.plan.specs.Written.{twin}
use Rattle.plan.proofs.view.View.find_half.Given as goal

abbrev pub invariant-loop-k : goal.invariant-loop-k
invariant-loop-k l = (j : ℕ) → l.first ≤ j → j < l.k → reads l.self.table.now l.self.block Ends (twin (reads l.self.table.now l.self.block VertexHalves j)) ≡ l.to → ⊥
