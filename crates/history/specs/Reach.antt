-- Reach: the places that the amounts moved at named places can have had an influence on. It follows the making of the values:
-- a named place joins when a surviving move is made at it, and any place when a step changes it and it reads one that is in.
use Rattle.std.specs.Prelude.{ℕ, Bool, false, ◌||◌, List, [], ◌∷◌, map, slice_index_or}
use Rattle.hierarchy.specs.Meaning.{Meaning}
use Rattle.lifting.specs.HalfSteps.{Rule}
use Rattle.history.specs.declared.slot.Slot.{Slot}
use Rattle.history.specs.Histories.{History, values}

abbrev pub some : List Bool → Bool
some [] = false
some (b ∷ bs) = b || some bs

-- the same making over "in" and "out": a sum is in where a part of it is, and what a step adds is in where a value read is
abbrev pub joining : Rule Bool
joining = record { plus = ◌||◌; zero = false; opposite = λ b. b; amount = λ step class dimension q. some q.vertices || (some q.edges || some q.faces) }

-- a move's amount is in where its place is named
abbrev pub marked : {V : Type 0} → (ℕ → Bool) → Slot V → Slot Bool
marked named s = record { place = s.place; depth = s.depth; amount = named s.place }

-- no opened value is in
abbrev pub marks : {V : Type 0} → (ℕ → Bool) → History V → History Bool
marks named h = record {
  opening = record { values = map (λ _. false) h.opening.values; depth = h.opening.depth; slots = h.opening.slots };
  depth = h.depth;
  moves = map (marked named) h.moves;
}

-- whether a place is in the reach of the named places
abbrev pub in_reach : {V : Type 0} → Meaning → (ℕ → Bool) → History V → ℕ → Bool
in_reach m named h place = slice_index_or (values m joining (marks named h)) place false
