use Rattle.std.proofs.Common.{refl}
use Rattle.hp_out.proofs.WritingLemmas.{nothing_written}
use Rattle.hp_top.specs.Telling.{WithoutMemory}
use Rattle.hp_top.proofs.refusing.refuse_files.Goals as goal

-- without memory nothing is written
pub returns-in-NoMemory-clause-tells : goal.returns-in-NoMemory-clause-tells
returns-in-NoMemory-clause-tells g c = WithoutMemory refl (nothing_written _ (g.K.Sink.bytes c.args.out.now))
