use Rattle.std.proofs.Common.{length, refl}
use Rattle.std.proofs.lemmas.Option.{slice_get_read}
use Rattle.hp_suspended.proofs.simple.known_among.Goals as goal

pub returns-in-Some : goal.returns-in-Some
returns-in-Some c =
    let parts = c.args.parts.now in record {
      argument = c.loop-number.number;
      pattern = c.index-parts-number.result;
      number = refl;
      stands =
          slice_get_read parts (length parts) c.loop-number.number c.index-parts-number.result refl
          c.loop-number-test.true c.index-parts-number.is;
      known = c.in-Some.ensures;
    }
