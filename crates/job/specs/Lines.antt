-- The values of the code, as what they say. Assumes nothing.
use Rattle.std.specs.Prelude.{ℕ, List, ◌++◌, Some, None, Ok, Err, codes, decimal, Option, Result}
use Rattle.job.specs.declared.Command.{Command}
use Rattle.job.specs.declared.Command.TheVariants.{Base}
use Rattle.job.specs.declared.Complaint.{Complaint}
use Rattle.job.specs.declared.Complaint.TheVariants.{UnknownWord, WordCount}
use Rattle.job.specs.Meaning.{Meaning, nothing, base, unknown, wrong_count}

abbrev pub asked : Command → Meaning
asked (Base file) = base file.now

abbrev pub refused : Complaint → Meaning
refused (UnknownWord word) = unknown word.now
refused (WordCount usage given) = wrong_count usage.now given

abbrev pub view_command : Result Command Complaint → Meaning
view_command (Ok command) = asked command
view_command (Err complaint) = refused complaint

abbrev pub view : Result (Option Command) Complaint → Meaning
view (Ok None) = nothing
view (Ok (Some command)) = asked command
view (Err complaint) = refused complaint

abbrev pub sentence : Complaint → List ℕ
sentence (UnknownWord word) = codes "unknown command \"" ++ (word.now ++ codes "\"; the commands are: base FILE")
sentence (WordCount usage given) = codes "wrong number of words, " ++ (decimal given ++ (codes "; this command is written: " ++ usage.now))
