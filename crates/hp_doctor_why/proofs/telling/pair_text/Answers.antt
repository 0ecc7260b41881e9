use Rattle.std.proofs.lemmas.List.Elements.{All-contains}
use Rattle.hp_syntax.specs.GroundPatterns.{IsGroundPair}
use Rattle.hp_syntax.specs.Views.{pair_of}
use Rattle.hp_doctor_why.specs.Queries.{files_of, read_domain, read_problem}
use Rattle.hp_doctor_why.proofs.PairSteps.{accepted_pairs, after_header, among}
use Rattle.hp_doctor_why.proofs.telling.pair_text.Goals as goal

pub why_of-requires : goal.why_of-requires
why_of-requires c =
    let q = c.args.query in
    record {
      search =
          record {
            code = c.requires.ready.code;
            pair =
                All-contains IsGroundPair (read_problem q).pairs (pair_of c.args.pair.now)
                (accepted_pairs (files_of q) (read_domain q) (read_problem q) c.requires.ready.accepted)
                (among (read_problem q).pairs c.requires.at.0 (pair_of c.args.pair.now) c.requires.at.1);
            depth = c.requires.ready.askable.depth;
            nest = c.requires.ready.askable.nest;
          };
    }

pub returns : goal.returns
returns c = record {
  tells =
      record {
        why = c.in_ok-why.why;
        right = c.in_ok-why.ensures;
        is =
            after_header _ _ _ _ _ c.new-text.ensures.items c.in_ok-push_header.ensures c.in_ok-push_why.ensures;
      };
}
