use Rattle.std.proofs.Common.{rules, ◌≡◌, ◌+◌, ◌<◌, ◌≤◌, length, [], ◌∷◌, ◌++◌, refl, sym, ◌∙◌, ap, append-nil, arith}
use Rattle.std.proofs.lemmas.List.{append_assoc, length-append}
use Rattle.std.proofs.Math.Seq.{take-append_seam, drop-append_seam}
use Rattle.hp_syntax.specs.declared.limits.TheConstants.{LARGEST_TEXT}
use Rattle.hp_syntax.specs.Text.{byte_kind, kind_at}
use Rattle.hp_syntax.proofs.TextLemmas.{open_in_list}
use Rattle.hp_text.proofs.reader.+read.Goals as goal
use Rattle.hp_text.proofs.reader.+read.Goals.{nodes-then-loop-end-test+else-bytes-end-ne41, nodes-else-loop-end-test}
use Rattle.hp_text.proofs.ByteLemmas.{unblank_byte, opening_byte, closing_byte, name_left, opening_within, within_no_end}
use Rattle.hp_text.proofs.Clear.{clear_is_short, no_bad, closes_within}
use Rattle.hp_text.proofs.ReadSteps.{read_none}
use Rattle.hp_text.proofs.PlaceLemmas.{between_brackets}
use Rattle.hp_text.proofs.NodeLemmas.{opening_no_name, opening_no_blank, list_at, read_pushed}

-- the bracket stands within the text
pub list-overflow_add-from : goal.list-overflow_add-from
list-overflow_add-from t c =
    let within : c.args.from < length c.args.bytes.now =
    opening_within c.args.bytes.now c.args.from c.requires.opening in
    search rules

-- behind its opening bracket a list is shorter
pub list-nodes-requires : goal.list-nodes-requires
list-nodes-requires t c =
    let text = c.args.bytes.now in
    let from = c.args.from in
    let within : from < length text = opening_within text from c.requires.opening in (
      search rules,
      (
        c.requires.clear,
        between_brackets text from within (opening_no_name text from c.requires.opening)
            (opening_no_blank text from c.requires.opening),
      ),
    )

-- a clear text isn't too large
pub list-overflow_cast-result : goal.list-overflow_cast-result
list-overflow_cast-result t c =
    let short : length c.args.bytes.now ≤ LARGEST_TEXT = clear_is_short c.args.bytes.now c.requires.clear in
    let within : c.args.from < length c.args.bytes.now =
    opening_within c.args.bytes.now c.args.from c.requires.opening in
    search rules

-- the list closes within the text
pub list-overflow_cast-result-2 : goal.list-overflow_cast-result-2
list-overflow_cast-result-2 t c =
    let text = c.args.bytes.now in
    let run = c.in_ok-run.run' in
    let short : length text ≤ LARGEST_TEXT = clear_is_short text c.requires.clear in
    let closes : run.end < length text =
    closes_within text run.end _ _ c.requires.clear c.in_ok-run.ensures.stop.within
    (c.in_ok-run.ensures.read.brackets ∙ open_in_list text c.args.from c.requires.opening) in
    search rules

-- the list ends at the closing bracket that stopped `nodes`
pub list-returns-clause-node : goal.list-returns-clause-node
list-returns-clause-node t c =
    let text = c.args.bytes.now in
    let run = c.in_ok-run.run' in
    let closes : run.end < length text =
    closes_within text run.end _ _ c.requires.clear c.in_ok-run.ensures.stop.within
    (c.in_ok-run.ensures.read.brackets ∙ open_in_list text c.args.from c.requires.opening) in
    list_at text c.args.from run.end _ run.nodes refl refl refl closes c.requires.opening
    (c.in_ok-run.ensures.closing closes) c.in_ok-run.ensures.read

-- an opening bracket opens a list
pub node-list-requires : goal.node-list-requires
node-list-requires t c =
    let text = c.args.bytes.now in
    let from = c.args.from in (
      search rules,
      (
        c.requires.clear,
        unblank_byte text from c.requires.within c.requires.stop.stops
            ∙ ap byte_kind c.if-bytes-from-eq40.true,
      ),
    )

-- each other kind is that of a name byte
pub node-word-requires-clause-byte : goal.node-word-requires-clause-byte
node-word-requires-clause-byte t c =
    let text = c.args.bytes.now in
    let from = c.args.from in
    name_left (kind_at text from) c.requires.stop.stops
    (λ k. c.if-bytes-from-eq40.false (opening_byte text from k)) c.requires.no_close
    (no_bad text from c.requires.clear) (λ k. within_no_end text from c.requires.within k)

-- and a token begins there
pub node-word-requires-clause-outside : goal.node-word-requires-clause-outside
node-word-requires-clause-outside t c =
    let text = c.args.bytes.now in
    let from = c.args.from in
    c.requires.stop.begins
    (name_left (kind_at text from) c.requires.stop.stops
    (λ k. c.if-bytes-from-eq40.false (opening_byte text from k)) c.requires.no_close
    (no_bad text from c.requires.clear) (λ k. within_no_end text from c.requires.within k))

-- before the first node there is a gap
pub nodes-loop-end-init : goal.nodes-loop-end-init
nodes-loop-end-init t c =
    let skipped = c.skip_gap-end in
    record {
      begins = skipped.ensures.gap.order;
      stop = skipped.ensures.stop;
      count = search rules;
      gathered = (
        [],
        (
          sym (append-nil c.args.pending.now.items),
          read_none c.args.bytes.now c.args.from skipped.result skipped.ensures.gap,
        ),
      );
    }

-- a node begins here, since nothing closes
pub nodes-node-requires : goal.nodes-node-requires
nodes-node-requires t c =
    let text = c.args.bytes.now in
    let i = c.loop-end.end in
    let begun : c.args.from ≤ i = c.loop-end.invariant.begins in
    let within : i < length text = omega arith in (
      search rules,
      (
        c.requires.clear,
        (within, (c.loop-end.invariant.stop, λ k. c.if-bytes-end-ne41.true (closing_byte text i k))),
      ),
    )

-- one more node, and the gap behind it
pub nodes-loop-end-preserved : goal.nodes-loop-end-preserved
nodes-loop-end-preserved t c =
    let text = c.args.bytes.now in
    let skipped = c.skip_gap-end-in-loop-end in
    let next = c.in_ok-next.next in
    let node = c.in_ok-next.ensures.node in
    let gathered = c.loop-end.invariant.gathered in
    let begun : c.args.from ≤ c.loop-end.end = c.loop-end.invariant.begins in
    let grown : c.loop-end.end < next.span.to = node.grows in
    let behind : next.span.to ≤ skipped.result = skipped.ensures.gap.order in
    record {
      begins = omega arith;
      stop = skipped.ensures.stop;
      count = c.loop-end.invariant.count;
      gathered = (
        gathered.0 ++ next ∷ [],
        (
          c.in_ok-push.ensures.items
              ∙ ap (λ xs. xs ++ next ∷ []) (c.in_ok-next.ensures.pending ∙ gathered.1.0)
              ∙ append_assoc c.args.pending.now.items gathered.0 (next ∷ []),
          read_pushed text c.args.from c.loop-end.end skipped.result gathered.0 _ next refl gathered.1.1 node
              skipped.ensures.gap,
        ),
      );
    }

-- the pending nodes of others aren't moved
pub nodes-split_off-requires : goal.nodes-split_off-requires
nodes-split_off-requires t c =
    let gathered = c.loop-end.invariant.gathered in
    let all : length c.loop-end.pending.items ≡ length c.args.pending.now.items + length gathered.0 =
    ap length gathered.1.0 ∙ length-append c.args.pending.now.items gathered.0 in
    let count : c.len-others.result ≡ length c.args.pending.now.items = c.loop-end.invariant.count in
    search rules

-- nodes that are moved were read
pub nodes-returns-clause-read : goal.nodes-returns-clause-read
nodes-returns-clause-read t c =
    let gathered = c.loop-end.invariant.gathered in
    rw (c.in_ok-nodes.ensures.tail, gathered.1.0, c.loop-end.invariant.count, drop-append_seam) gathered.1.1

-- short of the end only a closing bracket stops the loop
pub nodes-returns-clause-closing : goal.nodes-returns-clause-closing
nodes-returns-clause-closing t c within =
    elim c.loop-end-test.branch [
      | nodes-then-loop-end-test+else-bytes-end-ne41 w ↦ unblank_byte c.args.bytes.now c.loop-end.end within
          c.loop-end.invariant.stop.stops ∙ ap byte_kind w.if-bytes-end-ne41.false
      | nodes-else-loop-end-test w ↦ absurd (omega arith)
    ]

-- the pending nodes of others stay
pub nodes-returns-clause-pending : goal.nodes-returns-clause-pending
nodes-returns-clause-pending t c =
    let gathered = c.loop-end.invariant.gathered in
    rw (c.in_ok-nodes.ensures.items, gathered.1.0, c.loop-end.invariant.count)
    (take-append_seam c.args.pending.now.items gathered.0)
