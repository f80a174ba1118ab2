-- What a line of a job leads to. Assumes nothing.
use Rattle.std.specs.Prelude.{◌≡◌, ℕ, List, Some, None, Ok, Err, codes, Option, Result}
use Rattle.job.specs.Lines.{sentence, refused}
use Rattle.job.specs.Meaning.{Meaning, nothing, base}
use Rattle.shelfquail.specs.declared.session.Trouble.{Trouble}
use Rattle.shelfquail.specs.declared.session.Trouble.TheVariants.{Line, File, Record, Memory}

-- the sentence on a bad line, where its words are not the system's
abbrev pub said : Trouble → Option (List ℕ)
said (Line complaint) = Some (sentence complaint)
said (File name e) = None
said (Record e) = None
said Memory = Some (codes "out of memory")

-- a line of this meaning may be answered so
abbrev pub Follows : {S : Type 0} → Meaning → Result (Option S) Trouble → Type 0
Follows m (Ok None) = m ≡ nothing
Follows m (Ok (Some entry)) = (file : List ℕ) × (m ≡ base file)
Follows m (Err (Line complaint)) = m ≡ refused complaint
Follows m (Err (File name e)) = m ≡ base name.now
Follows m (Err (Record e)) = ⊥
Follows m (Err Memory) = (file : List ℕ) × (m ≡ base file)

-- what may keep the command with this file from its entry
abbrev pub Stopped : {S : Type 0} → List ℕ → Result S Trouble → Type 0
Stopped file (Ok entry) = Unit {0}
Stopped file (Err (Line complaint)) = ⊥
Stopped file (Err (File name e)) = name.now ≡ file
Stopped file (Err (Record e)) = ⊥
Stopped file (Err Memory) = Unit {0}
