-- What an open choice has given stays so over terms that agree, by scenes of the same code and where it goes on.
use Rattle.std.proofs.Common.{◌≡◌, ℕ, zero, suc, ◌<◌, List, [], ◌∷◌, ◌++◌, length, map, take, Option, Some, None, IfSome, refl, sym, ◌∙◌, ap, ap₂, subst, append_assoc, arith, get_or}
use Rattle.std.specs.Prelude.{Box, slice_get, Result, Ok, Err, IfOk, OnOk}
use Rattle.std.proofs.lemmas.List.{append-nil}
use Rattle.std.proofs.lemmas.Option.{slice_get_read}
use Rattle.std.specs.Global.{Global}
use Rattle.hp_syntax.specs.Networks.{Place, candidates}
use Rattle.hp_syntax.specs.Syntax.{Rule}
use Rattle.hp_syntax.specs.Terms.{Term}
use Rattle.hp_syntax.specs.Walk.{Child, CutChild, FaultChild, Node, rule_children}
use Rattle.hp_laws.specs.Derivations.{IsNext, situation_at}
use Rattle.hp_code.specs.CodeViews.{CodeView, rules_in}
use Rattle.hp_eval.specs.GoalViews.{term_at}
use Rattle.hp_eval.specs.Growth.{Grows}
use Rattle.hp_links.specs.Linked.{Linked, focused, place_of}
use Rattle.hp_links.specs.Placed.{candidates_in}
use Rattle.hp_suspended.specs.declared.scene.Scene.{Scene}
use Rattle.hp_suspended.specs.SceneViews.{code_in}
use Rattle.hp_tree.specs.Children.{place_in, place_or_whole}
use Rattle.hp_tree.specs.SearchNodes.{HeldNode, IsHeldNode, node_of}
use Rattle.hp_tree.proofs.SearchNodeLemmas.{node_stays, term_stays}
use Rattle.hp_site.proofs.AgreeLemmas.{held_agrees, term_agrees}
use Rattle.hp_choice.specs.declared.choice.Choice.{Choice}
use Rattle.hp_choice.specs.declared.choice.Given.{Given}
use Rattle.hp_choice.specs.declared.choice.Given.TheVariants as given
use Rattle.hp_choice.specs.Choices.{Takes, children_if, choice_children, given_children, held_children}
use Rattle.hp_choice.specs.Served.{ServesBy, ServesStill}
use Rattle.hp_agenda.specs.declared.agenda.Agenda.{Agenda}
use Rattle.hp_agenda.specs.declared.queue.Queue.{Queue}
use Rattle.hp_agenda.specs.Agendas.{IsAgenda}
use Rattle.hp_agenda.specs.Begun.{AreFirst, ChoiceGave, HasGiven, HasLast, LastGiven, Serving, did_given, serving_of}
use Rattle.hp_agenda.specs.Queues.{MaybeOpen, rule_of}
use Rattle.hp_agenda.proofs.AgreeSteps.{choice_agrees, choice_scene, code_same}

-- ---- the same in other words

-- what a rule has given and left stays so where both are told in other words
gave_alike : (c d : CodeView) (nest : ℕ) (v w : Serving) (given left rest : List Child) → c ≡ d → v ≡ w → left ≡ rest
    → HasGiven c nest v given left → HasGiven d nest w given rest
gave_alike c d nest v w given left rest code serving same h =
    subst (λ k. HasGiven k nest w given rest) code
    (subst (λ x. HasGiven c nest x given rest) serving (subst (HasGiven c nest v given) same h))

-- a serving by its node and its task
abbrev serving_by : Serving → Node → Term → Serving
serving_by v n t = record v { node = n; task = t }

-- ---- terms that agree

module _ (n : ℕ) (c d : List Term) (s : Scene) (nest base : ℕ) (h : HeldNode) (node : IsHeldNode n h)
    (same : take n c ≡ take n d) where
  last_agrees : (number : ℕ) (o : Option (Box Choice Global)) (last : List Child) → MaybeOpen s c base n h o
      → LastGiven s nest c h number o last → LastGiven s nest d h number o last
  last_agrees number None last is g = g
  last_agrees number (Some x) last is (earlier, gave) = (
    earlier,
    gave_alike (code_in s) (code_in s) nest (serving_of c h number x.value) (serving_of d h number x.value)
        (earlier ++ last) (held_children s nest c h x.value) (held_children s nest d h x.value) refl
        (ap₂ (serving_by (serving_of c h number x.value)) (held_agrees n c d h node same)
        (term_agrees n c d same x.value.task is.choice.task))
        (choice_agrees n c d s nest h x.value node is.choice same) gave,
  )

  -- what an agenda has given stays so over terms that agree below a count
  pub has_last_agrees : (a : Agenda) (last : List Child) → IsAgenda s c base n h a → HasLast s nest c h a last
      → HasLast s nest d h a last
  has_last_agrees a last is g =
      record { first = g.first; given = last_agrees a.queue.at a.open last is.choice g.given }

-- ---- scenes of the same code, and the same search node

module _ (s t : Scene) (code : s.code ≡ t.code) (nest : ℕ) (terms : List Term) where
  last_in_scene : (h : HeldNode) (number : ℕ) (o : Option (Box Choice Global)) (last : List Child)
      → LastGiven s nest terms h number o last → LastGiven t nest terms h number o last
  last_in_scene h number None last g = g
  last_in_scene h number (Some x) last (earlier, gave) = (
    earlier,
    gave_alike (code_in s) (code_in t) nest (serving_of terms h number x.value) (serving_of terms h number x.value)
        (earlier ++ last) (held_children s nest terms h x.value) (held_children t nest terms h x.value)
        (code_same s t code) refl (choice_scene s t code nest terms h x.value) gave,
  )

  -- it stays so in a scene of the same code, at the same search node
  pub has_last_at : (h g : HeldNode) (a : Agenda) (last : List Child) → h ≡ g → HasLast s nest terms h a last
      → HasLast t nest terms g a last
  has_last_at h g a last node is =
      subst (λ k. HasLast t nest terms k a last) node
      (record { first = is.first; given = last_in_scene h a.queue.at a.open last is.given })

-- ---- what was given last

module _ (s : Scene) (nest : ℕ) (terms : List Term) (h : HeldNode) where
  settled : (number : ℕ) (o : Option (Box Choice Global)) (last : List Child) → LastGiven s nest terms h number o last
      → LastGiven s nest terms h number o []
  settled number None last g = refl
  settled number (Some x) last (earlier, gave) = (
    earlier ++ last,
    subst (λ given. ChoiceGave s nest terms h number x.value given) (sym (append-nil (earlier ++ last))) gave,
  )

  -- what was given last was given
  pub has_settled : (a : Agenda) (last : List Child) → HasLast s nest terms h a last → HasLast s nest terms h a []
  has_settled a last g =
      record { first = g.first; given = settled a.queue.at a.open last g.given }

-- without a choice that is open nothing was given last
pub none_open : (s : Scene) (nest : ℕ) (terms : List Term) (h : HeldNode) (a : Agenda)
    → AreFirst h.network a.queue.candidates.items → a.open ≡ None → HasLast s nest terms h a []
none_open s nest terms h a first closed = record {
  first = first;
  given = subst (λ o. LastGiven s nest terms h a.queue.at o []) (sym closed) refl;
}

-- children with one that was given are others, and last the decomposition, if it is one
record EndsWith (terms : List Term) (child : HeldNode) (given : Option Given) (before : List Child) : Type 0 where
  earlier : List Child
  is : before ++ given_children terms child given ≡ earlier ++ did_given terms child given

ends_with : (terms : List Term) (child : HeldNode) (given : Option Given) (before : List Child)
    → EndsWith terms child given before
ends_with terms child None before = record { earlier = before; is = refl }
ends_with terms child (Some (given.Did floor)) before = record { earlier = before; is = refl }
ends_with terms child (Some given.Cut) before =
    record { earlier = before ++ CutChild ∷ []; is = sym (append-nil (before ++ CutChild ∷ [])) }
ends_with terms child (Some (given.Fault f)) before =
    record { earlier = before ++ FaultChild f ∷ []; is = sym (append-nil (before ++ FaultChild f ∷ [])) }

module _ (s : Scene) (nest : ℕ) (old new : List Term) (grows : Grows old new) (h : HeldNode)
    (node : IsHeldNode (length old) h) where
  -- the next child was given by the choice, and the others are left
  pub choice_gave_next : (number : ℕ) (x y : Box Choice Global) (given : Option Given) (child : HeldNode)
      → x.value.task < length old → y.value.id ≡ x.value.id → ServesStill x.value y.value
      → held_children s nest old h x.value ≡ given_children new child given ++ held_children s nest new h y.value
      → LastGiven s nest old h number (Some x) []
      → LastGiven s nest new h number (Some y) (did_given new child given)
  choice_gave_next number x y given child below id still next (earlier, gave) =
      let e = ends_with new child given earlier in
      let same : serving_of old h number x.value ≡ serving_of new h number y.value =
      ap₂ (serving_by (serving_of old h number x.value)) (sym (node_stays old new grows h node))
      (sym (term_stays old new grows x.value.task below))
      ∙ (ap₂ (λ i t. record (serving_of new h number x.value) { place = place_in h.network i; task = term_at new t })
      (sym id) (sym still.task)
      ∙ ap₂ (λ r b. record (serving_of new h number y.value) { rule = r; branch = b }) (sym still.rule)
      (sym still.branch)) in
      let own : HasGiven (code_in s) nest (serving_of new h number y.value) (earlier ++ [])
      (held_children s nest old h x.value) =
      subst (λ v. HasGiven (code_in s) nest v (earlier ++ []) (held_children s nest old h x.value)) same gave in (
        e.earlier,
        record {
          next = own.next;
          own = own.own;
          is = own.is;
          serves = own.serves;
          children =
              own.children
              ∙ (ap₂ ◌++◌ (append-nil earlier) next
              ∙ (sym (append_assoc earlier (given_children new child given) (held_children s nest new h y.value))
              ∙ ap (λ xs. xs ++ held_children s nest new h y.value) e.is));
        },
      )

-- ---- candidates that are listed

-- what stands in the first ones of a list stands in the list
pub of_first : {A : Type 0} (k i : ℕ) (xs : List A) (x : A) → slice_get (take k xs) i ≡ Some x
    → slice_get xs i ≡ Some x
of_first zero i xs x e = absurd cc
of_first (suc k) i [] x e = absurd cc
of_first (suc k) zero (y ∷ xs) x e = e
of_first (suc k) (suc i) (y ∷ xs) x e = of_first k i xs x e

-- a candidate stands at the place of its number
pub place_found : (net : Linked) (cs : List ℕ) (ps : List Place) (i id : ℕ) → map (place_of net) cs ≡ map Some ps
    → slice_get cs i ≡ Some id → slice_get ps i ≡ Some (place_in net id)
place_found net [] ps i id e there = absurd cc
place_found net (k ∷ cs) [] i id e there = absurd cc
place_found net (k ∷ cs) (p ∷ ps) zero id e there =
    let own : k ≡ id = cc in
    let at' : place_of net k ≡ Some p = cc in
    ap Some (ap place_or_whole (sym at') ∙ ap (place_in net) own)
place_found net (k ∷ cs) (p ∷ ps) (suc i) id e there =
    let others : map (place_of net) cs ≡ map Some ps = cc in
    place_found net cs ps i id others there

-- the first ones of a list, so many as they are, are these
take_again : {A : Type 0} (k : ℕ) (xs : List A) → take (length (take k xs)) xs ≡ take k xs
take_again zero xs = refl
take_again (suc k) [] = refl
take_again (suc k) (x ∷ xs) = ap (λ ys. x ∷ ys) (take_again k xs)

-- the first ones of the candidates, so many, are the first ones
pub listed_first : (net : Linked) (limit : ℕ) (ids : List ℕ) → ids ≡ take limit (candidates_in net)
    → ((terms : List Term) → map (place_of net) (candidates_in net)
    ≡ map Some (candidates (focused terms net).0 (focused terms net).1))
    → AreFirst net ids
listed_first net limit ids is places =
    record {
      listed =
          is
          ∙ (sym (take_again limit (candidates_in net))
          ∙ ap (λ (xs : List ℕ). take (length xs) (candidates_in net)) (sym is));
      places = λ some. places;
    }

-- without any they are
pub none_first : (net : Linked) (ids : List ℕ) → ids ≡ [] → AreFirst net ids
none_first net ids none = record {
  listed = none ∙ ap (λ (xs : List ℕ). take (length xs) (candidates_in net)) (sym none);
  places = λ some. absurd (let long = ap length none in omega (arith, long, some));
}

-- where one of them is left, it is the candidate of that number
pub number_there : (net : Linked) (ids : List ℕ) (terms : List Term) (i id : ℕ) → AreFirst net ids → i < length ids
    → id ≡ get_or ids i id
    → slice_get (candidates (focused terms net).0 (focused terms net).1) i ≡ Some (place_in net id)
number_there net ids terms i id first within is =
    place_found net (candidates_in net) (candidates (focused terms net).0 (focused terms net).1) i id
    (first.places (omega (arith, within)) terms)
    (of_first (length ids) i (candidates_in net) id
    (ap (λ xs. slice_get xs i) (sym first.listed) ∙ slice_get_read ids (length ids) i id refl within is))

-- ---- the choice that is opened

-- what holds of a thing, if it is there, may be said in other words
pub some_weaker : {A : Type 0} (o : Option A) (P Q : A → Type 0) → ((x : A) → P x → Q x) → IfSome o P → IfSome o Q
some_weaker None P Q f h = tt
some_weaker (Some x) P Q f h = f x h

module _ (s : Scene) (nest : ℕ) (terms : List Term) (h : HeldNode) (number id task rule : ℕ) (n : Node) (t : Term)
    (r : Rule) where
  -- the choice of a rule that is opened for a candidate has given nothing yet
  pub opened_last : (o : Option (Box Choice Global)) → node_of terms h ≡ n → term_at terms task ≡ t
      → IsNext (situation_at n) number (place_in h.network id) t → rule_of (code_in s) rule ≡ Some r
      → IfSome o (λ c. (c.value.id ≡ id) × (c.value.task ≡ task)) → IfSome o (λ c. c.value.rule ≡ rule)
      → IfSome o (λ c. ServesBy (rules_in (code_in s)) nest n.state t r c.value.branch)
      → children_if s nest terms h.stage n (place_in h.network id) o
      ≡ rule_children (rules_in (code_in s)) nest n (place_in h.network id) t r
      → LastGiven s nest terms h number o []
  opened_last None node own next is names by serves children = refl
  opened_last (Some c) node own next is names by serves children =
      let p = place_in h.network id in
      let left = choice_children s nest terms h.stage n p c.value in
      let begun : HasGiven (code_in s) nest
      (record { node = n; number = number; place = p; task = t; rule = rule; branch = c.value.branch }) [] left =
      record { next = next; own = r; is = is; serves = serves; children = sym children } in
      let same : record { node = n; number = number; place = p; task = t; rule = rule; branch = c.value.branch }
      ≡ serving_of terms h number c.value =
      ap₂ (λ m u. record { node = m; number = number; place = p; task = u; rule = rule; branch = c.value.branch })
      (sym node) (sym own)
      ∙ (ap₂ (λ i u. record {
        node = node_of terms h;
        number = number;
        place = place_in h.network i;
        task = term_at terms u;
        rule = rule;
        branch = c.value.branch;
      }) (sym names.0) (sym names.1)
      ∙ ap (λ k. record (serving_of terms h number c.value) { rule = k }) (sym by)) in (
        [],
        gave_alike (code_in s) (code_in s) nest _ (serving_of terms h number c.value) [] left
            (held_children s nest terms h c.value) refl same
            (ap₂ (λ m i. choice_children s nest terms h.stage m (place_in h.network i) c.value) (sym node)
            (sym names.0))
            begun,
      )

-- ---- the next child of the choice that is open

module _ (s : Scene) (nest base : ℕ) (old new : List Term) (grows : Grows old new) (h : HeldNode)
    (node : IsHeldNode (length old) h) (a b : Agenda) (x y : Box Choice Global) (opened : a.open ≡ Some x)
    (left : b.open ≡ Some y) (queue : b.queue ≡ a.queue) (is : MaybeOpen s old base (length old) h a.open)
    (id : y.value.id ≡ x.value.id) (last : HasLast s nest old h a []) where
  -- what it gives is what was given last
  open_gave_next : (given : Option Given) (child : HeldNode) → ServesStill x.value y.value
      → Takes s nest old new h x.value given child y.value → HasLast s nest new h b (did_given new child given)
  open_gave_next given child still takes =
      let own = subst (MaybeOpen s old base (length old) h) opened is in
      let begun : LastGiven s nest old h a.queue.at (Some x) [] =
      subst (λ o. LastGiven s nest old h a.queue.at o []) opened last.given in
      record {
        first = subst (λ (q : Queue). AreFirst h.network q.candidates.items) (sym queue) last.first;
        given =
            subst (λ o. LastGiven s nest new h b.queue.at o (did_given new child given)) (sym left)
            (subst (λ (q : Queue). LastGiven s nest new h q.at (Some y) (did_given new child given)) (sym queue)
            (choice_gave_next s nest old new grows h node a.queue.at x y given child own.choice.task id still takes.next
            begun));
      }

  pub open_gives_next : {E : Type 0} (r : Result (Option Given) E) (child : HeldNode)
      → OnOk r (ServesStill x.value y.value) → IfOk r (λ given. Takes s nest old new h x.value given child y.value)
      → IfOk r (λ given. HasLast s nest new h b (did_given new child given))
  open_gives_next (Ok given) child still takes = open_gave_next given child still takes
  open_gives_next (Err e) child still takes = tt
