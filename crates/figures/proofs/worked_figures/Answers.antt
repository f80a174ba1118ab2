use Rattle.std.proofs.Common.{refl}
use Rattle.figures.proofs.Figures.{every_row}
use Rattle.figures.proofs.worked_figures.Goals as goal

pub returns : goal.returns
returns c = record { count = refl; hold = every_row }
