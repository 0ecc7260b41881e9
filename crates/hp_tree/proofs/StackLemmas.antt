-- The place that each call leads to, told by the successors that are left at each node on the way.
use Rattle.std.proofs.Common.{◌≡◌, ℕ, suc, ◌+◌, ◌-◌, Bool, true, false, ◌==◌, cond, List, [], ◌∷◌, ◌++◌, map, Option, Some, None, option_map, refl, sym, ◌∙◌, ap, ap₂, subst, arith, append_assoc}
use Rattle.std.specs.List.{All}
use Rattle.std.specs.Option.{option_and_then}
use Rattle.std.proofs.lemmas.List.{append-nil}
use Rattle.std.proofs.lemmas.List.Elements.{All-nil, All-append}
use Rattle.hp_syntax.specs.Syntax.{Rule}
use Rattle.hp_syntax.specs.Networks.{is_empty}
use Rattle.hp_syntax.specs.Walk as walk
use Rattle.hp_net.specs.Standings.{Standing, standing, next_below, step_of, stepped, gone_back, pruned, arrived, parent}
use Rattle.hp_tree.specs.Successors.{Successor, ThePlan, TheChild, successors, visits_of, dids_in}
use Rattle.hp_tree.specs.Stacks as stacks
use Rattle.hp_tree.proofs.SuccessorLemmas.{visits_split, visits_below, visits_elsewhere, begins_on, begins_itself, elsewhere_further, next_none, next_first, none_below, skip_below}

-- ---- numbers of Dids

-- Dids of two lists are those of each
pub dids_append : (xs ys : List Successor) → dids_in (xs ++ ys) ≡ dids_in xs + dids_in ys
dids_append [] ys = omega arith
dids_append (ThePlan ∷ xs) ys = dids_append xs ys
dids_append (TheChild (walk.DidChild m) ∷ xs) ys = let h = dids_append xs ys in omega arith
dids_append (TheChild walk.CutChild ∷ xs) ys = dids_append xs ys
dids_append (TheChild (walk.FaultChild f) ∷ xs) ys = dids_append xs ys

module _ (rules : List Rule) (nest : ℕ) where
  -- the number of Dids given is that among the successors given
  pub given_is : (l : stacks.Level) (h : stacks.IsLevel rules nest l) → stacks.given_at rules nest l ≡ dids_in h.given
  unfolding stacks.given_at
  given_is l h =
      let e = ap dids_in h.split in
      let a = dids_append h.given l.left in
      omega (arith, e, a)

  -- ---- nodes that paths reach

  behind : (r : List ℕ) (n : walk.Node) (q : List ℕ) (e z : Bool) (o : Option walk.Node)
      → ((m : walk.Node) → walk.node_at rules nest m q ≡ Some n → walk.node_at rules nest m (q ++ r)
      ≡ walk.node_at rules nest n r)
      → cond e None (cond z None (option_and_then (λ m. walk.node_at rules nest m q) o)) ≡ Some n
      → cond e None (cond z None (option_and_then (λ m. walk.node_at rules nest m (q ++ r)) o))
      ≡ walk.node_at rules nest n r
  behind r n q true z o deep h = absurd cc
  behind r n q false true o deep h = absurd cc
  behind r n q false false None deep h = absurd cc
  behind r n q false false (Some m) deep h = deep m h

  -- a path goes on from the node that its prefix reaches
  node_at_behind : (q r : List ℕ) (root n : walk.Node) → walk.node_at rules nest root q ≡ Some n
      → walk.node_at rules nest root (q ++ r) ≡ walk.node_at rules nest n r
  unfolding walk.node_at
  node_at_behind [] r root n h = let e : root ≡ n = cc in ap (λ k. walk.node_at rules nest k r) e
  node_at_behind (i ∷ q) r root n h =
      behind r n q (is_empty root.network) (root.depth == 0) (walk.did_at (walk.children rules nest root) i)
      (λ m k. node_at_behind q r m n k) h

  no_prefix : (xs ys : List Successor) (y : Successor) → [] ≡ xs ++ y ∷ ys → ⊥
  no_prefix [] ys y h = cc
  no_prefix (x ∷ xs) ys y h = cc

  not_one : (x : Successor) (given cs : List Successor) (m : walk.Node) → x ∷ [] ≡ given ++ TheChild (walk.DidChild m)
      ∷ cs
      → x ≡ TheChild (walk.DidChild m)
  not_one x [] cs m h = cc
  not_one x (g ∷ gs) cs m h =
      let tail : [] ≡ gs ++ TheChild (walk.DidChild m) ∷ cs = cc in
      absurd (no_prefix gs cs (TheChild (walk.DidChild m)) tail)

  -- a Did among children has the number of the Dids before it
  did_mapped : (ks : List walk.Child) (given cs : List Successor) (m : walk.Node)
      → map TheChild ks ≡ given ++ TheChild (walk.DidChild m) ∷ cs → walk.did_at ks (dids_in given) ≡ Some m
  did_mapped [] given cs m h = absurd (no_prefix given cs (TheChild (walk.DidChild m)) h)
  did_mapped (k ∷ ks) [] cs m h = let e : k ≡ walk.DidChild m = cc in ap (λ c. walk.did_at (c ∷ ks) 0) e
  did_mapped (walk.DidChild x ∷ ks) (g ∷ gs) cs m h =
      let e : g ≡ TheChild (walk.DidChild x) = cc in
      let t : map TheChild ks ≡ gs ++ TheChild (walk.DidChild m) ∷ cs = cc in
      ap (λ c. walk.did_at (walk.DidChild x ∷ ks) (dids_in (c ∷ gs))) e ∙ did_mapped ks gs cs m t
  did_mapped (walk.CutChild ∷ ks) (g ∷ gs) cs m h =
      let e : g ≡ TheChild walk.CutChild = cc in
      let t : map TheChild ks ≡ gs ++ TheChild (walk.DidChild m) ∷ cs = cc in
      ap (λ c. walk.did_at (walk.CutChild ∷ ks) (dids_in (c ∷ gs))) e ∙ did_mapped ks gs cs m t
  did_mapped (walk.FaultChild f ∷ ks) (g ∷ gs) cs m h =
      let e : g ≡ TheChild (walk.FaultChild f) = cc in
      let t : map TheChild ks ≡ gs ++ TheChild (walk.DidChild m) ∷ cs = cc in
      ap (λ c. walk.did_at (walk.FaultChild f ∷ ks) (dids_in (c ∷ gs))) e ∙ did_mapped ks gs cs m t

  did_among : (e z : Bool) (ks : List walk.Child) (given cs : List Successor) (m : walk.Node)
      → cond e (ThePlan ∷ []) (cond z (TheChild walk.CutChild ∷ []) (map TheChild ks))
      ≡ given ++ TheChild (walk.DidChild m) ∷ cs
      → cond e None (cond z None (option_and_then (λ k. walk.node_at rules nest k []) (walk.did_at ks (dids_in given))))
      ≡ Some m
  unfolding walk.node_at
  did_among true z ks given cs m h = let e = not_one ThePlan given cs m h in absurd cc
  did_among false true ks given cs m h = let e = not_one (TheChild walk.CutChild) given cs m h in absurd cc
  did_among false false ks given cs m h = ap (option_and_then (λ k. Some k)) (did_mapped ks given cs m h)

  -- a Did among the successors of a node is reached by its number
  did_reached : (n m : walk.Node) (given cs : List Successor) → successors rules nest n ≡ given
      ++ TheChild (walk.DidChild m) ∷ cs
      → walk.node_at rules nest n (dids_in given ∷ []) ≡ Some m
  unfolding successors walk.node_at
  did_reached n m given cs h =
      did_among (is_empty n.network) (n.depth == 0) (walk.children rules nest n) given cs m h

  -- ---- levels

  -- the next successor is one of those given once it is taken
  pub level_next : (l : stacks.Level) (x : Successor) (cs : List Successor) → l.left ≡ x ∷ cs
      → stacks.IsLevel rules nest l
      → stacks.IsLevel rules nest (stacks.with_left l cs)
  level_next l x cs e h = record {
    given = h.given ++ x ∷ [];
    split = h.split ∙ (ap (λ xs. h.given ++ xs) e ∙ sym (append_assoc h.given (x ∷ []) cs));
  }

  -- at first nothing is given
  pub level_new : (n : walk.Node) → stacks.IsLevel rules nest (record { node = n; left = successors rules nest n })
  level_new n = record { given = []; split = refl }

  -- where nothing is left, all was given
  pub level_all : (n : walk.Node) → stacks.IsLevel rules nest (record { node = n; left = [] })
  level_all n = record { given = successors rules nest n; split = sym (append-nil (successors rules nest n)) }

  -- at first no Did is given
  pub given_new : (n : walk.Node) → stacks.given_at rules nest (record { node = n; left = successors rules nest n }) ≡ 0
  unfolding level_new
  given_new n = given_is (record { node = n; left = successors rules nest n }) (level_new n)

  -- a Did that is given next is one more
  pub given_did : (l : stacks.Level) (m : walk.Node) (cs : List Successor) → l.left ≡ TheChild (walk.DidChild m) ∷ cs
      → stacks.IsLevel rules nest l → stacks.given_at rules nest (stacks.with_left l cs)
      ≡ suc (stacks.given_at rules nest l)
  unfolding level_next
  given_did l m cs e h =
      let a = given_is l h in
      let b = given_is (stacks.with_left l cs) (level_next l (TheChild (walk.DidChild m)) cs e h) in
      let d = dids_append h.given (TheChild (walk.DidChild m) ∷ []) in
      omega (arith, a, b, d)

  -- a next successor that is no Did adds none to the Dids given
  pub given_other : (l : stacks.Level) (x : Successor) (cs : List Successor) → l.left ≡ x ∷ cs → dids_in (x ∷ []) ≡ 0
      → stacks.IsLevel rules nest l → stacks.given_at rules nest (stacks.with_left l cs) ≡ stacks.given_at rules nest l
  unfolding level_next
  given_other l x cs e none h =
      let a = given_is l h in
      let b = given_is (stacks.with_left l cs) (level_next l x cs e h) in
      let d = dids_append h.given (x ∷ []) in
      omega (arith, a, b, d, none)

  -- visits that are left above a node aren't below it
  pub above_elsewhere : (root : walk.Node) (ls : List stacks.Level) → stacks.AreReached rules nest root ls
      → All (λ v. walk.begins (stacks.path_to rules nest ls) v.path ≡ false) (stacks.rest_after rules nest ls)
  above_elsewhere root [] h = All-nil (λ v. walk.begins [] v.path ≡ false)
  above_elsewhere root (l ∷ ls) h =
      let p = stacks.path_to rules nest ls in
      let j = stacks.given_at rules nest l - 1 in
      let some = h.1 in
      All-append (λ v. walk.begins (p ++ j ∷ []) v.path ≡ false) (stacks.ahead rules nest p l)
      (stacks.rest_after rules nest ls)
      (visits_elsewhere rules nest l.node p (stacks.given_at rules nest l) j l.left (omega arith))
      (elsewhere_further p (j ∷ []) (stacks.rest_after rules nest ls) (above_elsewhere root ls h.2))

  -- ---- the place after a step

  -- a step takes the next successor, and leads here
  pub record Steps (s : stacks.Stack) (x : Successor) (new : stacks.Stack) : Type 0 where
    pub answer : option_map step_of (next_below (stacks.path_to rules nest s.above) (stacks.rest_of rules nest s))
        ≡ Some (stacks.told_of x)
    pub stands : stepped (stacks.standing_of rules nest s) ≡ stacks.standing_of rules nest new
    pub stack : stacks.IsStack rules nest new
    pub root : stacks.root_of new.top new.above ≡ stacks.root_of s.top s.above

  -- a call leads here
  pub record Leads (from : Standing) (s new : stacks.Stack) : Type 0 where
    pub stands : from ≡ stacks.standing_of rules nest new
    pub stack : stacks.IsStack rules nest new
    pub root : stacks.root_of new.top new.above ≡ stacks.root_of s.top s.above

  root_left : (l : stacks.Level) (cs : List Successor) (ls : List stacks.Level)
      → stacks.root_of (stacks.with_left l cs) ls ≡ stacks.root_of l ls
  root_left l cs [] = refl
  root_left l cs (k ∷ ls) = refl

  stack_left : (s : stacks.Stack) (x : Successor) (cs : List Successor) (over : Bool) → s.top.left ≡ x ∷ cs
      → stacks.IsStack rules nest s
      → stacks.IsStack rules nest (record {
        top = stacks.with_left s.top cs;
        above = s.above;
        at_did = false;
        over =
            over;
      })
  stack_left s x cs over e h =
      let same = root_left s.top cs s.above in
      record {
        top =
            record {
              level = level_next s.top x cs e h.top.level;
              there = ap (λ r. walk.node_at rules nest r (stacks.path_to rules nest s.above)) same ∙ h.top.there;
            };
        above = subst (λ r. stacks.AreReached rules nest r s.above) (sym same) h.above;
        fresh = λ k. absurd (let never : false ≡ true = k in cc);
      }

  rest_first : (s : stacks.Stack) (cs : List Successor) → s.over ≡ false → s.top.left ≡ cs
      → stacks.rest_of rules nest s
      ≡ visits_of rules nest s.top.node (stacks.path_to rules nest s.above) (stacks.given_at rules nest s.top) cs
      ++ stacks.rest_after rules nest s.above
  rest_first s cs on e =
      ap (λ b. cond b [] (stacks.ahead rules nest (stacks.path_to rules nest s.above) s.top
      ++ stacks.rest_after rules nest s.above)) on
      ∙ ap (λ xs. visits_of rules nest s.top.node (stacks.path_to rules nest s.above)
      (stacks.given_at rules nest s.top) xs
      ++ stacks.rest_after rules nest s.above) e

  next_is : (s : stacks.Stack) (v : walk.Visit) (vs : List walk.Visit) → stacks.rest_of rules nest s ≡ v ∷ vs
      → walk.begins (stacks.path_to rules nest s.above) v.path ≡ true
      → next_below (stacks.path_to rules nest s.above) (stacks.rest_of rules nest s) ≡ Some v
  next_is s v vs e b =
      ap (next_below (stacks.path_to rules nest s.above)) e ∙ next_first (stacks.path_to rules nest s.above) v vs b

  stepped_is : (s : stacks.Stack) (v : walk.Visit) (vs : List walk.Visit) → stacks.rest_of rules nest s ≡ v ∷ vs
      → walk.begins (stacks.path_to rules nest s.above) v.path ≡ true
      → stepped (stacks.standing_of rules nest s) ≡ arrived (stacks.path_to rules nest s.above) (Some v) (v ∷ vs)
  stepped_is s v vs e b =
      ap₂ (λ o rest. arrived (stacks.path_to rules nest s.above) o rest) (next_is s v vs e b) e

  -- where the next successor is no Did and no fault, the visits of those behind it are left
  left_later : (s : stacks.Stack) (x : Successor) (cs : List Successor) → s.over ≡ false → s.top.left ≡ x ∷ cs
      → dids_in (x ∷ []) ≡ 0 → stacks.IsStack rules nest s
      → visits_of rules nest s.top.node (stacks.path_to rules nest s.above) (stacks.given_at rules nest s.top) cs
      ++ stacks.rest_after rules nest s.above
      ≡ stacks.rest_of rules nest (record {
        top = stacks.with_left s.top cs;
        above = s.above;
        at_did = false;
        over =
            s.over;
      })
  left_later s x cs on e none h =
      ap (λ k. visits_of rules nest s.top.node (stacks.path_to rules nest s.above) k cs
      ++ stacks.rest_after rules nest s.above)
      (sym (given_other s.top x cs e none h.top.level))
      ∙ ap (λ b. cond b [] (stacks.ahead rules nest (stacks.path_to rules nest s.above) (stacks.with_left s.top cs)
      ++ stacks.rest_after rules nest s.above)) (sym on)

  -- the path to a Did that is taken
  path_taken : (s : stacks.Stack) (m : walk.Node) (cs : List Successor) → s.top.left ≡ TheChild (walk.DidChild m) ∷ cs
      → stacks.IsStack rules nest s
      → stacks.path_to rules nest (stacks.with_left s.top cs ∷ s.above) ≡ stacks.path_to rules nest s.above
      ++ stacks.given_at rules nest s.top ∷ []
  path_taken s m cs e h =
      let one = given_did s.top m cs e h.top.level in
      let j : stacks.given_at rules nest (stacks.with_left s.top cs) - 1 ≡ stacks.given_at rules nest s.top =
      omega (arith, one) in
      ap (λ k. stacks.path_to rules nest s.above ++ k ∷ []) j

  -- behind a Did the visits of its own successors are left, and those of the successors behind it at its parent
  did_later : (s : stacks.Stack) (m : walk.Node) (cs : List Successor) → s.over ≡ false
      → s.top.left ≡ TheChild (walk.DidChild m) ∷ cs → stacks.IsStack rules nest s
      → (walk.visits rules nest m (stacks.path_to rules nest s.above ++ stacks.given_at rules nest s.top ∷ [])
      ++ visits_of rules nest s.top.node (stacks.path_to rules nest s.above)
      (suc (stacks.given_at rules nest s.top)) cs)
      ++ stacks.rest_after rules nest s.above
      ≡ stacks.rest_of rules nest (stacks.taken rules nest s (TheChild (walk.DidChild m)) cs)
  did_later s m cs on e h =
      let p = stacks.path_to rules nest s.above in
      let g = stacks.given_at rules nest s.top in
      let q = p ++ g ∷ [] in
      let above = stacks.rest_after rules nest s.above in
      let later = visits_of rules nest s.top.node p (suc g) cs in
      append_assoc (walk.visits rules nest m q) later above
      ∙ (ap (λ vs. vs ++ (later ++ above)) (visits_split rules nest m q)
      ∙ (ap₂ (λ z k. visits_of rules nest m q z (successors rules nest m)
      ++ (visits_of rules nest s.top.node p k cs ++ above)) (sym (given_new m))
      (sym (given_did s.top m cs e h.top.level))
      ∙ (ap (λ w. stacks.ahead rules nest w (record { node = m; left = successors rules nest m })
      ++ stacks.rest_after rules nest (stacks.with_left s.top cs ∷ s.above)) (sym (path_taken s m cs e h))
      ∙ ap (λ b. cond b [] (stacks.ahead rules nest (stacks.path_to rules nest (stacks.with_left s.top cs ∷ s.above))
      (record { node = m; left = successors rules nest m }) ++ stacks.rest_after rules nest
      (stacks.with_left s.top cs ∷ s.above)))
      (sym on))))

  -- the stack is one where a Did is taken
  did_stack : (s : stacks.Stack) (m : walk.Node) (cs : List Successor) → s.over ≡ false
      → s.top.left ≡ TheChild (walk.DidChild m) ∷ cs → stacks.IsStack rules nest s
      → stacks.IsStack rules nest (stacks.taken rules nest s (TheChild (walk.DidChild m)) cs)
  did_stack s m cs on e h =
      let p = stacks.path_to rules nest s.above in
      let root = stacks.root_of s.top s.above in
      let same = root_left s.top cs s.above in
      let left = stack_left s (TheChild (walk.DidChild m)) cs false e h in
      let one = given_did s.top m cs e h.top.level in
      let number = given_is s.top h.top.level in
      let there = ap (walk.node_at rules nest root)
      (path_taken s m cs e h ∙ ap (λ k. p ++ k ∷ []) number)
      ∙ (node_at_behind p (dids_in h.top.level.given ∷ []) root s.top.node h.top.there
      ∙ did_reached s.top.node m h.top.level.given cs
      (h.top.level.split ∙ ap (λ xs. h.top.level.given ++ xs) e)) in
      record {
        top =
            record {
              level = level_new m;
              there = ap (λ r. walk.node_at rules nest r (stacks.path_to rules nest
                  (stacks.with_left s.top cs ∷ s.above))) same ∙ there;
            };
        above = (left.top, omega (arith, one), left.above);
        fresh = λ k. (refl, on);
      }

  -- a step takes the next successor
  pub step_next : (s : stacks.Stack) (x : Successor) (cs : List Successor) → stacks.IsStack rules nest s → s.over
      ≡ false
      → s.top.left ≡ x ∷ cs → Steps s x (stacks.taken rules nest s x cs)
  unfolding visits_of
  step_next s ThePlan cs h on e =
      let p = stacks.path_to rules nest s.above in
      let n = s.top.node in
      let first = rest_first s (ThePlan ∷ cs) on e in
      let v = walk.visit p n walk.Plan in
      let later = left_later s ThePlan cs on e refl h in
      record {
        answer = ap (option_map step_of) (next_is s v _ first (begins_itself p));
        stands = stepped_is s v _ first (begins_itself p) ∙ ap (λ vs. standing p vs false) later;
        stack = stack_left s ThePlan cs s.over e h;
        root = root_left s.top cs s.above;
      }
  step_next s (TheChild walk.CutChild) cs h on e =
      let p = stacks.path_to rules nest s.above in
      let n = s.top.node in
      let first = rest_first s (TheChild walk.CutChild ∷ cs) on e in
      let v = walk.visit p n walk.CutHere in
      let later = left_later s (TheChild walk.CutChild) cs on e refl h in
      record {
        answer = ap (option_map step_of) (next_is s v _ first (begins_itself p));
        stands = stepped_is s v _ first (begins_itself p) ∙ ap (λ vs. standing p vs false) later;
        stack = stack_left s (TheChild walk.CutChild) cs s.over e h;
        root = root_left s.top cs s.above;
      }
  step_next s (TheChild (walk.FaultChild f)) cs h on e =
      let p = stacks.path_to rules nest s.above in
      let n = s.top.node in
      let first = rest_first s (TheChild (walk.FaultChild f) ∷ cs) on e in
      let v = walk.visit p n (walk.FaultHere f) in
      record {
        answer = ap (option_map step_of) (next_is s v _ first (begins_itself p));
        stands = stepped_is s v _ first (begins_itself p);
        stack = stack_left s (TheChild (walk.FaultChild f)) cs true e h;
        root = root_left s.top cs s.above;
      }
  step_next s (TheChild (walk.DidChild m)) cs h on e =
      let p = stacks.path_to rules nest s.above in
      let n = s.top.node in
      let q = p ++ stacks.given_at rules nest s.top ∷ [] in
      let first = rest_first s (TheChild (walk.DidChild m) ∷ cs) on e in
      let v = walk.visit q m walk.Did in
      let below = begins_on p (stacks.given_at rules nest s.top ∷ []) in
      record {
        answer = ap (option_map step_of) (next_is s v _ first below);
        stands =
            stepped_is s v _ first below
            ∙ ap₂ (λ w vs. standing w vs true) (sym (path_taken s m cs e h)) (did_later s m cs on e h);
        stack = did_stack s m cs on e h;
        root = root_left s.top cs s.above;
      }

  -- the walk rests where nothing is taken
  stack_rests : (s : stacks.Stack) → stacks.IsStack rules nest s → stacks.IsStack rules nest (stacks.rested s)
  stack_rests s h = record {
    top = h.top;
    above = h.above;
    fresh = λ k. absurd (let never : false ≡ true = k in cc);
  }

  none_rests : (s : stacks.Stack) → stacks.IsStack rules nest s
      → next_below (stacks.path_to rules nest s.above) (stacks.rest_of rules nest s) ≡ None
      → Leads (stepped (stacks.standing_of rules nest s)) s (stacks.rested s)
  none_rests s h e = record {
    stands = ap (λ o. arrived (stacks.path_to rules nest s.above) o (stacks.rest_of rules nest s)) e;
    stack = stack_rests s h;
    root = refl;
  }

  -- a step rests after a fault, and answers nothing
  pub step_over : (s : stacks.Stack) → stacks.IsStack rules nest s → s.over ≡ true
      → (next_below (stacks.path_to rules nest s.above) (stacks.rest_of rules nest s) ≡ None)
      × Leads (stepped (stacks.standing_of rules nest s)) s (stacks.rested s)
  step_over s h e =
      let none = ap (λ b. next_below (stacks.path_to rules nest s.above) (cond b [] (stacks.ahead rules nest
      (stacks.path_to rules nest s.above) s.top ++ stacks.rest_after rules nest s.above))) e in
      (none, none_rests s h none)

  -- so it does where nothing is left at the node reached
  pub step_end : (s : stacks.Stack) → stacks.IsStack rules nest s → s.over ≡ false → s.top.left ≡ []
      → (next_below (stacks.path_to rules nest s.above) (stacks.rest_of rules nest s) ≡ None)
      × Leads (stepped (stacks.standing_of rules nest s)) s (stacks.rested s)
  unfolding visits_of
  step_end s h on e =
      let none = ap (next_below (stacks.path_to rules nest s.above)) (rest_first s [] on e)
      ∙ next_none (stacks.path_to rules nest s.above) (stacks.rest_after rules nest s.above)
      (above_elsewhere (stacks.root_of s.top s.above) s.above h.above) in
      (none, none_rests s h none)

  -- ---- the places after the other calls

  parent_push : (p : List ℕ) (j : ℕ) → parent (p ++ j ∷ []) ≡ p
  parent_push [] j = refl
  parent_push (i ∷ []) j = refl
  parent_push (i ∷ k ∷ p) j = ap (λ q. i ∷ q) (parent_push (k ∷ p) j)

  none_left : (o : Bool) (p : List ℕ) (xs ys : List walk.Visit) → All (λ v. walk.begins p v.path ≡ true) xs
      → next_below p (cond o [] (xs ++ ys)) ≡ None → cond o [] (xs ++ ys) ≡ cond o [] ys
  none_left true p xs ys h e = refl
  none_left false p xs ys h e = ap (λ vs. vs ++ ys) (none_below p xs ys h e)

  -- going back leads to the level above
  pub back_to : (t l : stacks.Level) (ls : List stacks.Level) (d o : Bool)
      → (s : stacks.Stack) → s ≡ record { top = t; above = l ∷ ls; at_did = d; over = o } → stacks.IsStack rules nest s
      → next_below (stacks.path_to rules nest s.above) (stacks.rest_of rules nest s) ≡ None
      → Leads (gone_back (stacks.standing_of rules nest s)) s (record { top = l; above = ls; at_did = false; over = o })
  back_to t l ls d o s same h e =
      let whole : stacks.Stack = record { top = t; above = l ∷ ls; at_did = d; over = o } in
      let new : stacks.Stack = record { top = l; above = ls; at_did = false; over = o } in
      subst (λ z. Leads (gone_back (stacks.standing_of rules nest z)) z new) (sym same)
      (back_whole t l ls d o (subst (stacks.IsStack rules nest) same h)
      (subst (λ z. next_below (stacks.path_to rules nest z.above) (stacks.rest_of rules nest z) ≡ None) same e))
    where
      back_whole : (t l : stacks.Level) (ls : List stacks.Level) (d o : Bool)
          → stacks.IsStack rules nest (record { top = t; above = l ∷ ls; at_did = d; over = o })
          → next_below (stacks.path_to rules nest (l ∷ ls))
          (stacks.rest_of rules nest (record { top = t; above = l ∷ ls; at_did = d; over = o })) ≡ None
          → Leads (gone_back (stacks.standing_of rules nest (record { top = t; above = l ∷ ls; at_did = d; over = o })))
          (record { top = t; above = l ∷ ls; at_did = d; over = o })
          (record { top = l; above = ls; at_did = false; over = o })
      back_whole t l ls d o h e = record {
        stands =
            ap₂ (λ p vs. standing p vs false)
            (parent_push (stacks.path_to rules nest ls) (stacks.given_at rules nest l - 1))
            (none_left o (stacks.path_to rules nest (l ∷ ls)) (stacks.ahead rules nest
            (stacks.path_to rules nest (l ∷ ls)) t)
            (stacks.rest_after rules nest (l ∷ ls))
            (visits_below rules nest t.node (stacks.path_to rules nest (l ∷ ls)) (stacks.given_at rules nest t) t.left)
            e);
        stack =
            record {
              top = h.above.0;
              above = h.above.2;
              fresh = λ k. absurd (let never : false ≡ true = k in cc);
            };
        root = refl;
      }

  -- pruning leaves nothing at the node reached
  pub pruned_to : (s : stacks.Stack) → stacks.IsStack rules nest s → s.at_did ≡ true
      → Leads (pruned (stacks.standing_of rules nest s)) s
      (record { top = stacks.with_left s.top []; above = s.above; at_did = false; over = s.over })
  unfolding visits_of
  pruned_to s h did =
      let p = stacks.path_to rules nest s.above in
      let fresh = h.fresh did in
      let same = root_left s.top [] s.above in
      record {
        stands =
            ap (λ vs. standing p vs false)
            (ap (walk.skip p) (rest_first s s.top.left fresh.1 refl)
            ∙ (skip_below p (stacks.ahead rules nest p s.top) (stacks.rest_after rules nest s.above)
            (visits_below rules nest s.top.node p (stacks.given_at rules nest s.top) s.top.left)
            (above_elsewhere (stacks.root_of s.top s.above) s.above h.above)
            ∙ ap (λ b. cond b [] (stacks.rest_after rules nest s.above)) (sym fresh.1)));
        stack =
            record {
              top =
                  record {
                    level = level_all s.top.node;
                    there = ap (λ r. walk.node_at rules nest r p) same ∙ h.top.there;
                  };
              above = subst (λ r. stacks.AreReached rules nest r s.above) (sym same) h.above;
              fresh = λ k. absurd (let never : false ≡ true = k in cc);
            };
        root = same;
      }
