-- A form that was opened.
use Rattle.std.specs.Prelude.{◌≡◌, ℕ, Bool, List, length, Ok}
use Rattle.hierarchy.specs.Meaning.{Meaning}
use Rattle.lifting.specs.HalfSteps.{Rule}
use Rattle.history.specs.declared.call.Call.{Call}
use Rattle.history.specs.Rows.{opening_verdict}
use Rattle.history.specs.Histories.{opening_on, begun}
use Rattle.history.specs.Memory.{Memory, Stands}
use Rattle.history.specs.Promise.{Alike, Blind}

-- nothing spoke against the opening; the form stands at the opened depth with no move yet, and so form, points and move list stand
-- for the history that begins there
pub record Opened {V : Type 0} (m : Meaning) (r : Rule V) (needs : Bool) (depth : ℕ) (mem : Memory V) : Type 0 where
  pub verdict : opening_verdict m needs (length mem.points) (length mem.slots) depth ≡ Ok tt
  pub state : mem.state ≡ record { depth = depth; survivors = 0; slots = length mem.slots }
  pub stands : Stands m r mem (begun (opening_on depth mem.points mem.slots))
  -- whatever calls are made on it later, they are blind to amounts moved at named places, outside the reach of those
  pub blind : (named : ℕ → Bool) (calls others : List (Call V)) → Alike r named calls others → Blind m r (begun (opening_on depth mem.points mem.slots)) named calls others
