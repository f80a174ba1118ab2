use Rattle.std.proofs.Common.{vec_items, sym, ◌∙◌}
use Rattle.base.proofs.Tables.{sizes_again}
use Rattle.base.proofs.base.Base.face_sizes.Goals as goal

pub returns : goal.returns
returns c = let m = c.args.self.now.mesh in c.as_slice.ensures.value ∙ sym (sizes_again (vec_items m.sizes) (vec_items m.sides) m.total)
