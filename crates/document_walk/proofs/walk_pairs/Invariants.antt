-- The rest of the pairs leads to the answer.
-- Assumes nothing.
use Rattle.std.proofs.Common.{◌≡◌, ◌*◌, ◌≤◌, length, drop}
use Rattle.model_table.specs.Table.{entry_of}
use Rattle.document.specs.Tree.{deepest}
use Rattle.document.specs.Walk.{progress, walk, start}
use Rattle.document_step.specs.Step.{place_at}
use Rattle.document_walk.proofs.walk_pairs.Given as goal

abbrev pub invariant-loop-i : goal.invariant-loop-i
invariant-loop-i l =
    (length l.frames ≡ deepest) × (l.s.depth ≤ deepest)
    × (walk l.n (entry_of l.models) (progress (place_at l.s.begun l.s.top l.frames l.s.depth) l.s.good) (drop (2 * l.i) l.document) ≡ walk l.n (entry_of l.models) start l.document)
