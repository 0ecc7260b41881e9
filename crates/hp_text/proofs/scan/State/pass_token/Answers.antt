use Rattle.std.proofs.Common.{◌<◌, ◌≤◌, refl, arith}
use Rattle.hp_text.proofs.scan.State.pass_token.Goals as goal
use Rattle.hp_text.proofs.ScanSteps.{scanned_behind_token}

-- the scan goes on behind the token
pub returns-clause-scanned : goal.returns-clause-scanned
returns-clause-scanned c =
    let from = c.args.self.now.at in
    let to = c.token_end-to.result in
    let stands = c.min-self.result in
    let token = c.token_end-to.ensures.token in
    let some : from < to = token.some in
    let begun : from < c.args.end = c.requires.within in
    let o : stands ≤ to = omega arith in
    let within : stands ≤ c.args.end = omega arith in
    let grows : from < stands = omega arith in
    scanned_behind_token c.args.bytes.now c.args.end to c.args.self.now _ c.token_refusal.result c.requires.scanned
    begun token c.token_end-to.ensures.place o within (λ l. omega arith) grows refl c.token_refusal.ensures.clear
