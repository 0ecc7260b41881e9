-- Frames are the same levels where the site and the cells behind them change.
use Rattle.std.proofs.Common.{◌≡◌, ℕ, ◌-◌, ◌^◌, ◌<◌, ◌≤◌, min, List, [], ◌∷◌, ◌++◌, length, map, take, true, false, None, inl, inr, refl, sym, ◌∙◌, ap, ap₂, subst, arith}
use Rattle.std.proofs.lemmas.Bool.{cases_lt}
use Rattle.std.proofs.lemmas.List.Elements.{All-same}
use Rattle.hp_syntax.specs.Syntax.{Rule}
use Rattle.hp_syntax.specs.Terms.{Term}
use Rattle.hp_syntax.specs.Walk.{DidChild, Node}
use Rattle.hp_code.specs.CodeViews.{rules_in}
use Rattle.hp_code.specs.Codes.{code_of}
use Rattle.hp_world.specs.Histories.{History, mark_of}
use Rattle.hp_world.specs.Pasts.{PastsBelow}
use Rattle.hp_world.specs.Recorded.{history_in}
use Rattle.hp_world.specs.Stages.{AllBelow, Stage, live_atoms}
use Rattle.hp_world.proofs.PastLemmas.{past_end}
use Rattle.hp_suspended.specs.declared.scene.Scene.{Scene}
use Rattle.hp_suspended.specs.SceneViews.{code_in}
use Rattle.hp_tree.specs.Children.{IsCandidate}
use Rattle.hp_tree.specs.SearchNodes.{HeldNode, IsHeldNode, node_of}
use Rattle.hp_tree.specs.Stacks.{Level, given_at, with_left}
use Rattle.hp_tree.specs.Successors.{Successor, TheChild, dids_in, successors}
use Rattle.hp_tree.proofs.StackLemmas.{given_new}
use Rattle.hp_site.specs.declared.mark.Mark.{Mark}
use Rattle.hp_site.specs.declared.site.Site.{Site}
use Rattle.hp_site.specs.Sites.{AtomsWithin, IsMark, IsSite, IsWithin, Keeps, held_at, held_now, mark_now}
use Rattle.hp_site.proofs.AgreeLemmas.{held_agrees, held_below}
use Rattle.hp_site.proofs.SiteLemmas.{begin_alike, atoms_kept, held_is_now, keeps_held, keeps_within, pasts_within, within_after, within_itself}
use Rattle.hp_agenda.specs.declared.agenda.Agenda.{Agenda}
use Rattle.hp_agenda.specs.declared.frame.Frame.{Frame}
use Rattle.hp_agenda.specs.Agendas.{IsAgenda, agenda_children}
use Rattle.hp_agenda.specs.Begun.{HasLast}
use Rattle.hp_agenda.specs.Frames.{CameTo, IsFrame, LeadTo, Opens, end_successors, left_of, level_of, rules_at}
use Rattle.hp_agenda.specs.Queues.{IsRuleIn, MaybeOpen, by_queue, if_open}
use Rattle.hp_agenda.proofs.AgreeSteps.{agenda_agrees, agenda_below, agenda_in_scene, agenda_scene, agenda_within}
use Rattle.hp_agenda.proofs.BegunLemmas.{has_last_agrees, has_last_at}
use Rattle.hp_agenda.proofs.QueueLemmas.{nothing_left}

-- a level by its parts
abbrev level_by : Node → List Successor → Level
level_by n cs = record { node = n; left = cs }

-- the number of the Dids that were given at a level, as far as 64 bits tell
abbrev pub told_at : List Rule → ℕ → Level → ℕ
told_at rules nest l = min (given_at rules nest l) (2 ^ 64 - 1)

-- sites of the same code have the same rules
rules_kept : (m : Mark) (old new : Site) → Keeps m old new → rules_at new ≡ rules_at old
rules_kept m old new keeps = ap (λ k. rules_in (code_of k.now)) keeps.code

-- ---- the site changes

module _ (nest : ℕ) (old new : Site) (terms : List Term) (f : Frame) (keeps : Keeps f.mark old new) where
  node_kept : held_at new f.mark ≡ held_at old f.mark
  node_kept = keeps_held f.mark f.mark old new keeps (within_itself f.mark)

  -- a frame whose moment is kept is the same level
  pub level_moved : level_of new nest terms f ≡ level_of old nest terms f
  level_moved =
      ap₂ (λ h xs. level_by (node_of terms h) (end_successors f.end ++ map TheChild xs)) node_kept
      (agenda_scene new.scene old.scene keeps.code nest terms (held_at new f.mark) f.agenda
      ∙ ap (λ h. agenda_children old.scene nest terms h f.agenda) node_kept)

  -- it stays one
  pub frame_moved : (n : ℕ) → IsFrame old nest terms n f → IsFrame new nest terms n f
  frame_moved n is = record {
    mark = keeps.mark;
    node = subst (IsHeldNode f.base) (sym node_kept) is.node;
    atoms = atoms_kept f.base f.mark old new keeps is.atoms;
    base = is.base;
    agenda =
        agenda_in_scene old.scene new.scene (sym keeps.code) terms f.base n (held_at new f.mark) f.agenda
        (subst (λ h. IsAgenda old.scene terms f.base n h f.agenda) (sym node_kept) is.agenda);
    dids =
        λ p.
        is.dids (subst (λ l. 0 < dids_in l.left) level_moved p)
        ∙ sym (ap₂ (λ rules l. told_at rules nest l) (rules_kept f.mark old new keeps) level_moved);
  }

-- ---- the cells change

module _ (nest n : ℕ) (c d : List Term) (same : take n c ≡ take n d) (site : Site) (f : Frame)
    (is : IsFrame site nest c n f) where
  node_within : IsHeldNode n (held_at site f.mark)
  node_within = held_below f.base n (held_at site f.mark) is.base is.node

  -- a frame that needs cells below a count is the same level over terms that agree below it
  pub level_agrees : level_of site nest d f ≡ level_of site nest c f
  level_agrees =
      let h = held_at site f.mark in
      ap₂ (λ m xs. level_by m (end_successors f.end ++ map TheChild xs)) (sym (held_agrees n c d h node_within same))
      (sym (agenda_agrees n c d site.scene nest f.base h f.agenda node_within is.agenda same))

  -- it stays one
  pub frame_agrees : IsFrame site nest d n f
  frame_agrees = record {
    mark = is.mark;
    node = is.node;
    atoms = is.atoms;
    base = is.base;
    agenda = agenda_below n c d site.scene f.base (held_at site f.mark) f.agenda is.agenda same;
    dids =
        λ p.
        is.dids (subst (λ l. 0 < dids_in l.left) level_agrees p)
        ∙ sym (ap (told_at (rules_at site) nest) level_agrees);
  }

-- ---- both change

-- a frame is the same level as before, and one still
pub record FrameKept (nest n : ℕ) (old new : Site) (c d : List Term) (f : Frame) : Type 0 where
  pub level : level_of new nest d f ≡ level_of old nest c f
  pub frame : IsFrame new nest d n f

-- a frame whose moment is kept, and whose cells are, is kept
pub frame_kept : (nest n : ℕ) (old new : Site) (c d : List Term) (f : Frame) → IsFrame old nest c n f
    → Keeps f.mark old new → take n c ≡ take n d → FrameKept nest n old new c d f
frame_kept nest n old new c d f is keeps same = record {
  level = level_moved nest old new d f keeps ∙ level_agrees nest n c d same old f is;
  frame = frame_moved nest old new d f keeps n (frame_agrees nest n c d same old f is);
}

-- frames are the same levels as before, and lead to the moment still
pub record LeadKept (nest : ℕ) (m : Mark) (b : ℕ) (old new : Site) (c d : List Term) (fs : List Frame) : Type 0
  where
    pub levels : map (level_of new nest d) fs ≡ map (level_of old nest c) fs
    pub lead : LeadTo new nest d m b fs

-- frames that lead to a moment that is kept, and whose cells are, are kept
pub lead_kept : (nest : ℕ) (m : Mark) (b : ℕ) (old new : Site) (c d : List Term) (fs : List Frame)
    → LeadTo old nest c m b fs → Keeps m old new → take b c ≡ take b d → LeadKept nest m b old new c d fs
lead_kept nest m b old new c d [] lead keeps same = record { levels = refl; lead = tt }
lead_kept nest m b old new c d (f ∷ fs) lead keeps same =
    let (is, within, low, above) = lead in
    let here = keeps_within m f.mark old new keeps within in
    let first = frame_kept nest f.floor old new c d f is here (begin_alike f.floor b c d low same) in
    let base : f.base ≤ b = omega (arith, is.base, low) in
    let rest = lead_kept nest f.mark f.base old new c d fs above here (begin_alike f.base b c d base same) in
    record { levels = ap₂ ◌∷◌ first.level rest.levels; lead = (first.frame, within, low, rest.lead) }

-- frames that came to a moment that is kept, and whose cells are, came to it still
pub came_kept : (nest : ℕ) (m : Mark) (b : ℕ) (old new : Site) (c d : List Term) (fs : List Frame)
    → LeadTo old nest c m b fs → IsHeldNode b (held_at old m) → Keeps m old new → take b c ≡ take b d
    → CameTo old nest c m fs → CameTo new nest d m fs
came_kept nest m b old new c d [] lead node keeps same came = tt
came_kept nest m b old new c d (f ∷ fs) lead node keeps same came =
    let (is, within, low, above) = lead in
    let (last, others) = came in
    let here = keeps_within m f.mark old new keeps within in
    let base : f.base ≤ b = omega (arith, is.base, low) in
    let below = held_below f.base f.floor (held_at old f.mark) is.base is.node in
    let child : node_of c (held_at old m) ≡ node_of d (held_at new m) =
    held_agrees b c d (held_at old m) node same
    ∙ ap (node_of d) (sym (keeps_held m m old new keeps (within_itself m))) in (
      has_last_at old.scene new.scene (sym keeps.code) nest d (held_at old f.mark) (held_at new f.mark) f.agenda _
          (sym (keeps_held f.mark f.mark old new here (within_itself f.mark)))
          (has_last_agrees f.floor c d old.scene nest f.base (held_at old f.mark) below
          (begin_alike f.floor b c d low same) f.agenda _ is.agenda
          (subst (λ n. HasLast old.scene nest c (held_at old f.mark) f.agenda (DidChild n ∷ [])) child last)),
      came_kept nest f.mark f.base old new c d fs above is.node here (begin_alike f.base b c d base same) others,
    )

-- ---- other bounds

-- frames that lead to a moment lead to one that it isn't behind, at which no fewer cells stood
pub lead_within : (site : Site) (nest : ℕ) (terms : List Term) (m k : Mark) (a b : ℕ) (fs : List Frame)
    → IsWithin m k → a ≤ b → LeadTo site nest terms m a fs → LeadTo site nest terms k b fs
lead_within site nest terms m k a b [] within l lead = tt
lead_within site nest terms m k a b (f ∷ fs) within l lead =
    let low = lead.2 in (lead.0, within_after f.mark m k lead.1 within, omega (arith, low, l), lead.3)

-- a frame of the node of another is one by its own agenda, where the number of the Dids that were given is told
pub frame_like : (site : Site) (nest : ℕ) (c d : List Term) (n k : ℕ) (f g : Frame) → IsFrame site nest c n f
    → g.mark ≡ f.mark → g.base ≡ f.base → f.base ≤ k
    → IsAgenda site.scene d f.base k (held_at site f.mark) g.agenda
    → (0 < dids_in (level_of site nest d g).left
    → g.dids ≡ told_at (rules_at site) nest (level_of site nest d g))
    → IsFrame site nest d k g
frame_like site nest c d n k f g is mark base l agenda told = record {
  mark = subst (IsMark site) (sym mark) is.mark;
  node =
      subst (IsHeldNode g.base) (ap (held_at site) (sym mark))
      (subst (λ b. IsHeldNode b (held_at site f.mark)) (sym base) is.node);
  atoms =
      subst (λ b. AtomsWithin b g.mark.world (history_in site.scene.world)) (sym base)
      (subst (λ m. AtomsWithin f.base m.world (history_in site.scene.world)) (sym mark) is.atoms);
  base = omega (arith, base, l);
  agenda =
      subst (λ m. IsAgenda site.scene d g.base k (held_at site m) g.agenda) (sym mark)
      (subst (λ b. IsAgenda site.scene d b k (held_at site f.mark) g.agenda) (sym base) agenda);
  dids = told;
}

module _ (site : Site) (nest : ℕ) (terms : List Term) (n : ℕ) (f : Frame) (is : IsFrame site nest terms n f) where
  -- a frame needs cells below any greater count
  pub frame_within : (m : ℕ) → n ≤ m → IsFrame site nest terms m f
  frame_within m l =
      let low = is.base in
      frame_like site nest terms terms n m f f is refl refl (omega (arith, low, l))
      (agenda_within site.scene terms f.base f.base n m (held_at site f.mark) f.agenda is.agenda (omega arith) l)
      is.dids

  -- a frame is one with any floor
  pub frame_floor : (k : ℕ) → IsFrame site nest terms n (record f { floor = k })
  frame_floor k =
      frame_like site nest terms terms n n f (record f { floor = k }) is refl refl is.base is.agenda is.dids

  -- so it is with another number of Dids that tells of those that were given
  pub frame_dids : (k i : ℕ)
      → (0 < dids_in (level_of site nest terms f).left
      → i ≡ told_at (rules_at site) nest (level_of site nest terms f))
      → IsFrame site nest terms n (record f { floor = k; dids = i })
  frame_dids k i told =
      frame_like site nest terms terms n n f (record f { floor = k; dids = i }) is refl refl is.base is.agenda told

-- ---- the node that is reached

module _ (site : Site) (nest : ℕ) (terms : List Term) (f : Frame) where
  -- a frame of this moment is of the search node now
  pub held_here : f.mark ≡ mark_now site → held_at site f.mark ≡ held_now site
  held_here e = ap (held_at site) e ∙ held_is_now site

  -- its level is of that node
  pub level_here : f.mark ≡ mark_now site
      → level_of site nest terms f
      ≡ record { node = node_of terms (held_now site); left = left_of site.scene nest terms (held_now site) f }
  level_here e = ap (λ h. level_by (node_of terms h) (left_of site.scene nest terms h f)) (held_here e)

  -- a frame that opens is a level where nothing is given
  pub opened_level : Opens site nest terms f
      → level_of site nest terms f
      ≡ record {
        node = node_of terms (held_now site);
        left = successors (rules_at site) nest (node_of terms (held_now site));
      }
  opened_level opens =
      level_here opens.mark ∙ ap (level_by (node_of terms (held_now site))) opens.left

  -- it is a frame
  pub opened_frame : IsSite terms site → Opens site nest terms f → IsFrame site nest terms (length terms) f
  opened_frame is opens =
      let here = sym (held_here opens.mark) in
      let pasts = history_in site.scene.world in
      record {
        mark = subst (IsMark site) (sym opens.mark) (within_itself (mark_now site));
        node =
            subst (IsHeldNode f.base) here (subst (λ k. IsHeldNode k (held_now site)) (sym opens.base) is.node);
        atoms =
            pasts_within f.base f.mark.world pasts (subst (λ k. PastsBelow k pasts) (sym opens.base) is.pasts);
        base = (let e = opens.base in omega (arith, e));
        agenda = subst (λ h. IsAgenda site.scene terms f.base (length terms) h f.agenda) here opens.agenda;
        dids =
            λ l.
            let none = ap (given_at (rules_at site) nest) (opened_level opens)
            ∙ given_new (rules_at site) nest (node_of terms (held_now site)) in
            opens.dids ∙ ap (λ k. min k (2 ^ 64 - 1)) (sym none);
      }

-- where the atoms up to now are below a count, so are those of all pasts
pasts_all : (n : ℕ) (h : History Stage) → AtomsWithin n (mark_of h) h → PastsBelow n h
pasts_all n h within m = elim (cases_lt (mark_of h) m) [
  | inl late ↦
      subst (λ (s : Stage). AllBelow n (live_atoms s.places))
      (past_end h (mark_of h) (omega arith) ∙ sym (past_end h m (omega (arith, late))))
      (within (mark_of h) (omega arith))
  | inr early ↦ within m early
]

module _ (site : Site) (nest : ℕ) (terms : List Term) (n : ℕ) (f : Frame) (is : IsFrame site nest terms n f)
    (here : f.mark ≡ mark_now site) where
  -- the agenda of a frame of this moment is of the search node now
  pub agenda_here : IsAgenda site.scene terms f.base n (held_now site) f.agenda
  agenda_here = subst (λ h. IsAgenda site.scene terms f.base n h f.agenda) (held_here site nest terms f here) is.agenda

  -- the atoms of all pasts are below its base
  pub pasts_here : PastsBelow f.base (history_in site.scene.world)
  pasts_here =
      pasts_all f.base (history_in site.scene.world)
      (subst (λ m. AtomsWithin f.base m.world (history_in site.scene.world)) here is.atoms)

-- where a successor of the node that was reached was taken, and its moment is kept, the frame is of that node
module _ (nest : ℕ) (old new : Site) (terms : List Term) (g : Frame) (here : g.mark ≡ mark_now old)
    (keeps : Keeps (mark_now old) old new) where
  kept_here : Keeps g.mark old new
  kept_here = subst (λ m. Keeps m old new) (sym here) keeps

  pub taken_level : level_of new nest terms g
      ≡ record { node = node_of terms (held_now old); left = left_of old.scene nest terms (held_now old) g }
  taken_level = level_moved nest old new terms g kept_here ∙ level_here old nest terms g here

  pub taken_frame : (c : List Term) (n k : ℕ) (f : Frame) → IsFrame old nest c n f → g.mark ≡ f.mark
      → g.base ≡ f.base → f.base ≤ k → IsAgenda old.scene terms f.base k (held_now old) g.agenda
      → (0 < dids_in (level_of new nest terms g).left
      → g.dids ≡ told_at (rules_at new) nest (level_of new nest terms g))
      → IsFrame new nest terms k g
  taken_frame c n k f is mark base l agenda told =
      let level = level_moved nest old new terms g kept_here in
      let rules = rules_kept g.mark old new kept_here in
      frame_moved nest old new terms g kept_here k
      (frame_like old nest c terms n k f g is mark base l
      (subst (λ h. IsAgenda old.scene terms f.base k h g.agenda)
      (sym (ap (held_at old) (sym mark) ∙ held_here old nest terms g here)) agenda)
      (λ p.
      told (subst (λ v. 0 < dids_in v.left) (sym level) p)
      ∙ ap₂ (λ rs v. told_at rs nest v) rules level))

-- ---- a frame that was cleared

-- a frame behind whose candidates the next one would be, and that has no others, without an end and without a choice,
-- has nothing left
pub cleared_left : (s : Scene) (nest : ℕ) (terms : List Term) (h : HeldNode) (f : Frame) → f.end ≡ None
    → f.agenda.open ≡ None → length f.agenda.queue.candidates.items ≤ f.agenda.queue.at → f.agenda.queue.more ≡ false
    → left_of s nest terms h f ≡ []
cleared_left s nest terms h f ended closed l none =
    let q = f.agenda.queue in
    let n = node_of terms h in
    ap₂ (λ e cs. end_successors e ++ map TheChild cs) ended
    (ap₂ (λ o ks. if_open s nest terms h o ++ by_queue (code_in s) nest n h.network q.rules.now ks) closed
    (nothing_left h.network q l none))

-- an agenda without a choice, behind the candidates of one, is one
pub cleared_agenda : (s : Scene) (terms : List Term) (base n : ℕ) (h : HeldNode) (a b : Agenda)
    → IsAgenda s terms base n h a → b.open ≡ None → b.queue.candidates ≡ a.queue.candidates
    → b.queue.rules ≡ a.queue.rules → length b.queue.candidates.items ≤ b.queue.at → b.queue.more ≡ false
    → IsAgenda s terms base n h b
cleared_agenda s terms base n h a b is closed candidates rules l none =
    let few = is.queue.few in
    let same = ap (λ r. length r.now) rules in
    record {
      choice = subst (MaybeOpen s terms base n h) (sym closed) tt;
      queue =
          record {
            candidates =
                All-same (IsCandidate h.network) b.queue.candidates.items a.queue.candidates.items
                (ap (λ v. v.items) candidates) is.queue.candidates;
            rules =
                All-same (IsRuleIn (code_in s)) b.queue.rules.now a.queue.rules.now (ap (λ r. r.now) rules)
                is.queue.rules;
            few = omega (arith, few, same);
            deep = λ k. absurd (omega (arith, k, l));
            more = λ e. absurd (let both : true ≡ false = sym e ∙ none in cc);
          };
    }

-- a frame like another, without an end and with an agenda like that, is a frame with nothing left
module _ (site : Site) (nest : ℕ) (terms : List Term) (f g : Frame) (mark : g.mark ≡ f.mark) (ended : g.end ≡ None)
    (closed : g.agenda.open ≡ None) (l : length g.agenda.queue.candidates.items ≤ g.agenda.queue.at)
    (none : g.agenda.queue.more ≡ false) where
  pub cleared_level : level_of site nest terms g ≡ with_left (level_of site nest terms f) []
  cleared_level =
      ap₂ level_by (ap (λ m. node_of terms (held_at site m)) mark)
      (cleared_left site.scene nest terms (held_at site g.mark) g ended closed l none)

  pub cleared_frame : (n : ℕ) → IsFrame site nest terms n f → g.base ≡ f.base
      → g.agenda.queue.candidates ≡ f.agenda.queue.candidates → g.agenda.queue.rules ≡ f.agenda.queue.rules
      → IsFrame site nest terms n g
  cleared_frame n is base candidates rules =
      frame_like site nest terms terms n n f g is mark base is.base
      (cleared_agenda site.scene terms f.base n (held_at site f.mark) f.agenda g.agenda is.agenda closed candidates
      rules l none)
      (λ k. absurd (let over = ap (λ v. dids_in v.left) cleared_level in omega (arith, over, k)))
