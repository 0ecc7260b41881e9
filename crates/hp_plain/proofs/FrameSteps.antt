-- The successors that are left at a frame, step by step.
use Rattle.std.proofs.Common.{◌≡◌, ℕ, ◌<◌, true, false, ◌==◌, List, [], ◌++◌, length, map, Some, None, refl, sym, ◌∙◌, ap, ap₂, subst, arith}
use Rattle.std.specs.List.{All}
use Rattle.std.specs.Prelude.{Vec}
use Rattle.std.specs.Global.{Global}
use Rattle.std.proofs.lemmas.Bool.{ne_eqb}
use Rattle.std.proofs.lemmas.List.{append-nil, drop_all}
use Rattle.std.proofs.lemmas.List.Elements.{All-nil, All-same}
use Rattle.hp_syntax.specs.Syntax.{Rule}
use Rattle.hp_syntax.specs.Terms.{Term}
use Rattle.hp_syntax.specs.Networks.{candidates, is_empty}
use Rattle.hp_syntax.specs.Walk.{Child}
use Rattle.hp_links.specs.Linked.{NamesTask, place_of, focused}
use Rattle.hp_tree.specs.Children.{by_candidates, IsCandidate}
use Rattle.hp_tree.specs.Successors.{TheChild, successors}
use Rattle.hp_tree.proofs.ChildLemmas.{by_all, candidates_are}
use Rattle.hp_tree.proofs.SuccessorLemmas.{successors_plan, successors_cut, successors_children}
use Rattle.hp_plain.specs.declared.candidate.Child as made_child
use Rattle.hp_plain.specs.declared.frame.End.{End}
use Rattle.hp_plain.specs.declared.frame.End.TheVariants as ends
use Rattle.hp_plain.specs.declared.frame.Frame.{Frame}
use Rattle.hp_plain.specs.declared.frame.Successor as made
use Rattle.hp_plain.specs.declared.frame.Successor.TheVariants as nexts
use Rattle.hp_plain.specs.declared.search_node.SearchNode.{SearchNode}
use Rattle.hp_plain.specs.Agendas.{queue_children, agenda_children, if_open, MaybeChoice, Takes}
use Rattle.hp_plain.specs.Frames.{end_successors, left_of, Opens, TakesSuccessor, successor_list, SuccessorFits}
use Rattle.hp_plain.specs.SearchNodes.{node_in}

module _ (rules : List Rule) (nest : ℕ) where
  -- ---- all successors

  module _ (terms : List Term) (s : SearchNode) (f : Frame) (node : f.node ≡ s) (dids : f.dids ≡ 0)
      (none_open : f.agenda.open ≡ None) (none : f.agenda.queue.candidates.items ≡ [])
      (tried : f.agenda.queue.tried ≡ 0) where
    left_ended : (end : End) → f.end ≡ Some end → left_of rules nest terms f ≡ end_successors (Some end)
    left_ended end e =
        let q = f.agenda.queue in
        let few : length q.candidates.items ≡ 0 = ap length none in
        let empty : queue_children rules nest terms f.node q ≡ [] =
        ap (λ ks. by_candidates rules nest (node_in terms f.node) f.node.net.now ks q.tried)
        (drop_all q.at q.candidates.items (omega arith)) in
        ap₂ (λ o cs. end_successors o ++ map TheChild cs) e
        (ap₂ (λ r cs. if_open rules nest terms f.node r ++ cs) none_open empty)
        ∙ append-nil (end_successors (Some end))

    opens_ended : (end : End) → f.end ≡ Some end → end_successors (Some end) ≡ successors rules nest (node_in terms s)
        → Opens rules nest terms s f
    opens_ended end e same = record {
      node = node;
      dids = dids;
      agenda =
          record {
            choice = subst (MaybeChoice (length terms) s) (sym none_open) tt;
            queue =
                record {
                  candidates = All-same (IsCandidate s.net.now) f.agenda.queue.candidates.items [] none (All-nil
                      (IsCandidate s.net.now));
                  tried = omega arith;
                  deep =
                      λ l. absurd (let few : length f.agenda.queue.candidates.items ≡ 0 = ap length none in
                      omega arith);
                };
          };
      left = left_ended end e ∙ same;
    }

    -- a node where nothing is left to do opens with its plan
    pub opens_plan : f.end ≡ Some ends.Plan → is_empty (focused terms s.net.now).0 ≡ true → Opens rules nest terms s f
    opens_plan e empty = opens_ended ends.Plan e (sym (successors_plan rules nest (node_in terms s) empty))

    -- a node where no decomposition is left opens with a Cut
    pub opens_cut : f.end ≡ Some ends.Cut → is_empty (focused terms s.net.now).0 ≡ false → s.depth ≡ 0
        → Opens rules nest terms s f
    opens_cut e some z =
        opens_ended ends.Cut e (sym (successors_cut rules nest (node_in terms s) some (ap (λ k. k == 0) z)))

  -- another node opens with its children
  pub opens_children : (terms : List Term) (s : SearchNode) (ids : Vec ℕ Global)
      → is_empty (focused terms s.net.now).0 ≡ false
      → 0 < s.depth → All (NamesTask s.net.now) ids.items
      → map (place_of s.net.now) ids.items
      ≡ map Some (candidates (focused terms s.net.now).0 (focused terms s.net.now).1)
      → Opens rules nest terms s (record {
        node = s;
        dids = 0;
        end = None;
        agenda = record { «open» = None; queue = record { candidates = ids; at = 0; tried = 0 } };
      })
  opens_children terms s ids some deep names places = record {
    node = refl;
    dids = refl;
    agenda =
        record {
          choice = tt;
          queue =
              record {
                candidates =
                    candidates_are s.net.now ids.items (candidates (focused terms s.net.now).0
                    (focused terms s.net.now).1) names places;
                tried = omega arith;
                deep = λ l. deep;
              };
        };
    left =
        ap (map TheChild) (by_all rules nest (node_in terms s) s.net.now ids.items places)
        ∙ sym (successors_children rules nest (node_in terms s) some (ne_eqb s.depth 0 (λ e. omega arith)));
  }

  -- ---- the next successor

  -- the successor of a node without children is next
  pub takes_end : (terms : List Term) (f : Frame) (next : made.Successor)
      → successor_list terms (Some next) ≡ end_successors f.end → SuccessorFits (length terms) (Some next)
      → TakesSuccessor terms (Some next) (left_of rules nest terms f)
      (left_of rules nest terms (record f { end = None }))
  takes_end terms f next e fits = record {
    first = ap (λ xs. xs ++ map TheChild (agenda_children rules nest terms f.node f.agenda)) (sym e);
    fits = fits;
    all = λ k. absurd cc;
  }

-- a child that is taken is the next successor
pub takes_child : (terms : List Term) (child : made_child.Child) (before left : List Child)
    → Takes terms (Some child) before left
    → TakesSuccessor terms (Some (nexts.Child child)) (map TheChild before) (map TheChild left)
takes_child terms child before left h = record {
  first = ap (map TheChild) h.next;
  fits = h.fits;
  all = λ k. absurd cc;
}

-- where no child is taken, there is no successor
pub takes_no_child : (terms : List Term) (before left : List Child) → Takes terms None before left
    → TakesSuccessor terms None (map TheChild before) (map TheChild left)
takes_no_child terms before left h = record {
  first = ap (map TheChild) h.next;
  fits = tt;
  all = λ k. ap (map TheChild) (h.all refl);
}
