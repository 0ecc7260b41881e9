-- Candidates stand for the same where terms are added.
use Rattle.std.proofs.Common.{◌≡◌, ℕ, List, length, ap₂, arith}
use Rattle.std.specs.Prelude.{slice_get}
use Rattle.hp_syntax.specs.Terms.{Term}
use Rattle.hp_eval.specs.Growth.{Grows}
use Rattle.hp_eval.proofs.GrowthLemmas.{grows_length}
use Rattle.hp_tree.specs.Children.{done_by}
use Rattle.hp_tree.proofs.SearchNodeLemmas.{node_stays, node_grows, term_stays}
use Rattle.hp_plain.specs.declared.candidate.Candidate.{Candidate}
use Rattle.hp_plain.specs.Candidates.{rules_at, nest_at, place_at, done_at, CandidateFits}
use Rattle.hp_plain.specs.SearchNodes.{held}

module _ (old new : List Term) (g : Grows old new) where
  -- a candidate stays below the number of terms
  pub candidate_grows : (c : Candidate) → CandidateFits (length old) c → CandidateFits (length new) c
  candidate_grows c h = record {
    node = node_grows old new g (held c.node.now) h.node;
    candidate = h.candidate;
    task = (let l = grows_length old new g in let k = h.task in omega arith);
    deep = h.deep;
    few = h.few;
    book = h.book;
    world = h.world;
  }

  -- a satisfier gives the same children
  pub done_stays : (c : Candidate) → CandidateFits (length old) c → (rule k : ℕ)
      → done_at new c rule k ≡ done_at old c rule k
  done_stays c h rule k =
      ap₂ (λ n t. done_by (rules_at c) (nest_at c) n (place_at c) t (slice_get (rules_at c) rule) k)
      (node_stays old new g (held c.node.now) h.node) (term_stays old new g c.task h.task)
