use Rattle.std.proofs.Common.{rules, ◌≡◌, ◌≤◌, length, map, [], arith, ◌∙◌, ⊎_elim}
use Rattle.std.proofs.lemmas.Bool.{cases_lt}
use Rattle.hp_syntax.specs.declared.limits.TheConstants.{LARGEST_TEXT}
use Rattle.hp_syntax.specs.Refusal.{open_before}
use Rattle.hp_text.specs.Nodes.{node_of}
use Rattle.hp_text.proofs.reader.forest.Goals as goal
use Rattle.hp_text.proofs.Clear.{clear_is_short, closes_nothing, none_open_first}
use Rattle.hp_text.proofs.ReadSteps.{read_whole}

-- a clear text isn't too large
pub overflow_cast-result : goal.overflow_cast-result
overflow_cast-result c =
    let short : length c.args.bytes.now ≤ LARGEST_TEXT = clear_is_short c.args.bytes.now c.requires in
    search rules

-- only the text's end stops `nodes`, since nothing is open
pub returns-clause-forest : goal.returns-clause-forest
returns-clause-forest c =
    let text = c.args.bytes.now in
    let run = c.in_ok-run.run' in
    let within : run.end ≤ length text = c.in_ok-run.ensures.stop.within in
    let open' : open_before text run.end ≡ [] = c.in_ok-run.ensures.read.brackets ∙ none_open_first text in
    let whole : run.end ≡ length text =
    ⊎_elim
    (λ short. absurd (closes_nothing text run.end c.requires within open' (c.in_ok-run.ensures.closing short)))
    (λ end. omega arith) (cases_lt run.end (length text)) in
    read_whole text run.end (map node_of run.nodes.items) c.requires whole c.in_ok-run.ensures.read
