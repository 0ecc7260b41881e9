-- The successors that are left at a frame, step by step.
use Rattle.std.proofs.Common.{◌≡◌, ℕ, ◌<◌, false, List, length, map, None, refl, sym, ◌∙◌, ap, arith}
use Rattle.std.proofs.lemmas.Bool.{ne_eqb}
use Rattle.hp_syntax.specs.Terms.{Term}
use Rattle.hp_syntax.specs.Networks.{is_empty}
use Rattle.hp_syntax.specs.Walk.{children}
use Rattle.hp_suspended.specs.SceneViews.{code_in}
use Rattle.hp_links.specs.Linked.{focused}
use Rattle.hp_tree.specs.SearchNodes.{node_of}
use Rattle.hp_tree.specs.Successors.{TheChild}
use Rattle.hp_tree.proofs.SuccessorLemmas.{successors_children}
use Rattle.hp_site.specs.declared.site.Site.{Site}
use Rattle.hp_site.specs.Sites.{held_now, mark_now}
use Rattle.hp_agenda.specs.declared.queue.Queue.{Queue}
use Rattle.hp_agenda.specs.Begun.{AreFirst}
use Rattle.hp_agenda.specs.Frames.{Opens, rules_at}
use Rattle.hp_agenda.specs.Queues.{IsQueue, queue_children}

-- a node where something is left to do and a decomposition may follow opens with its children
pub opens_children : (site : Site) (nest : ℕ) (terms : List Term) (q : Queue)
    → is_empty (focused terms site.net.now).0 ≡ false → 0 < site.depth
    → queue_children (code_in site.scene) nest (node_of terms (held_now site)) site.net.now q
    ≡ children (rules_at site) nest (node_of terms (held_now site))
    → IsQueue (code_in site.scene) (held_now site) q → AreFirst site.net.now q.candidates.items
    → Opens site nest terms (record {
      mark = mark_now site;
      base = length terms;
      floor = length terms;
      dids = 0;
      end = None;
      agenda = record { «open» = None; queue = q };
    })
opens_children site nest terms q some deep left is first =
    let n = node_of terms (held_now site) in
    record {
      mark = refl;
      base = refl;
      dids = refl;
      agenda = record { choice = tt; queue = is };
      left =
          ap (map TheChild) left
          ∙ sym (successors_children (rules_at site) nest n some (ne_eqb site.depth 0 (λ e. omega arith)));
      last = record { first = first; given = refl };
    }
