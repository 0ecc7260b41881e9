use Rattle.std.proofs.Common.{◌<◌, ◌≤◌, length, arith}
use Rattle.hp_syntax.specs.Networks.{candidates}
use Rattle.hp_links.specs.Linked.{focused}
use Rattle.hp_derivation.proofs.GoingSteps.{candidate_missing, candidate_there}
use Rattle.hp_derivation.proofs.going.Going.candidate.Goals as goal

pub returns-then-place-len : goal.returns-then-place-len
returns-then-place-len c = λ terms.
    let net = c.args.self.now.net.now in
    let found = c.in_ok-found.found.items in
    let within : c.args.place < length found =
    omega (arith, c.if-place-len.true, c.len.ensures, c.in_ok-found.found.ok.0) in
    candidate_there net found (candidates (focused terms net).0 (focused terms net).1) c.args.place
    (c.in_ok-found.ensures.places terms) c.index.result.now within c.index.ensures c.in_ok-found.ensures.tasks

pub returns : goal.returns
returns c = λ terms.
    let net = c.args.self.now.net.now in
    let found = c.in_ok-found.found.items in
    let past : length found ≤ c.args.place =
    omega (arith, c.if-place-len.false, c.len.ensures, c.in_ok-found.found.ok.0) in
    candidate_missing net found (candidates (focused terms net).0 (focused terms net).1) c.args.place
    (c.in_ok-found.ensures.places terms) past
