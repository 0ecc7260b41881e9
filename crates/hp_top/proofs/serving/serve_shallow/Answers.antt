use Rattle.hp_syntax.specs.Views.{domain_of, problem_of}
use Rattle.hp_top.proofs.serving.serve_shallow.Goals as goal

pub returns-clause-tells : goal.returns-clause-tells
returns-clause-tells g c =
    rw c.as_slice.ensures.value at
    (c.tell_in_pages.ensures.tells (domain_of c.args.loaded.now.domain).rules c.in-Ok.ensures)

pub tell_in_pages-requires-clause-pairs : goal.tell_in_pages-requires-clause-pairs
tell_in_pages-requires-clause-pairs g c =
    rw c.as_slice.ensures.value
    (c.accepted_pairs_are_ground.ensures c.requires.text.0 (domain_of c.args.loaded.now.domain)
    (problem_of c.args.loaded.now.problem) c.requires.text.1 c.requires.checked)
