-- The atoms of pasts, and those that indexes have.
use Rattle.std.proofs.Common.{◌≡◌, ℕ, ◌+◌, ◌<◌, ◌≤◌, List, [], ◌∷◌, ◌++◌, inl, inr, Some, None, length, get_or, take, slice_get, sym, ap, ◌∙◌, subst, arith}
use Rattle.std.proofs.lemmas.Bool.{cases_lt}
use Rattle.std.proofs.lemmas.List.{length_push, get_or_past, get_or_default, get_or-take, length-take}
use Rattle.std.proofs.lemmas.List.Elements.{All-from_get_or, All-weaker}
use Rattle.std.proofs.lemmas.Option.{slice_get-get_or}
use Rattle.hp_world.specs.declared.store.Change.{Change}
use Rattle.hp_world.specs.Histories.{History, history, mark_of, past_at, undone_to, KeepsPasts}
use Rattle.hp_world.specs.Keyed.{Keyed, AtomsBelow}
use Rattle.hp_world.specs.Pasts.{PastsBelow, Stood, HasStood}
use Rattle.hp_world.specs.Recorded.{Recorded, IndexedBelow, IndexesStood, history_in}
use Rattle.hp_world.specs.Stages.{Stage, AllBelow, live_atoms}
use Rattle.hp_world.specs.Undoing.{undone}
use Rattle.hp_world.proofs.HistoryLemmas.{undone_pushed}
use Rattle.hp_world.proofs.StageLemmas.{atom_below}
use Rattle.hp_world.proofs.TrailLemmas.{keeps_pushed, length_pasts}

-- the past at the last mark is the present
pub past_end : {S : Type 0} (h : History S) (m : ℕ) → mark_of h ≤ m → past_at h m ≡ h.now
past_end h m l = get_or_past h.past m h.now l

-- ---- what indexes have

-- an atom that stood stood where pasts are kept
stood_on : (h g : History Stage) (i a : ℕ) → KeepsPasts h g → Stood h i a → Stood g i a
stood_on h g i a keeps s = record {
  mark = s.mark;
  within = omega (arith, s.within, keeps.mark);
  there = ap (λ (t : Stage). get_or t.places i None) (keeps.past s.mark s.within) ∙ s.there;
}

-- an atom that stands now stood
pub stands_now : (h : History Stage) (i a : ℕ) → get_or h.now.places i None ≡ Some a → Stood h i a
stands_now h i a e = record {
  mark = mark_of h;
  within = omega arith;
  there = ap (λ (t : Stage). get_or t.places i None) (past_end h (mark_of h) (omega arith)) ∙ e;
}

-- what stood before a change that is noted stood
pub stood_before : (ts : List Change) (t : Change) (s after : Stage) (i a : ℕ) → undone t after ≡ s
    → Stood (history undone ts s) i a → Stood (history undone (ts ++ t ∷ []) after) i a
stood_before ts t s after i a back h =
    stood_on (history undone ts s) (history undone (ts ++ t ∷ []) after) i a
    (subst (λ (u : Stage). KeepsPasts (history undone ts u) (history undone (ts ++ t ∷ []) after)) back
    (keeps_pushed undone ts t after)) h

-- an index whose atoms stood before a change has atoms that stood
pub has_stood : (p q : Keyed) (ts : List Change) (t : Change) (s after : Stage) → undone t after ≡ s
    → q.atoms ≡ p.atoms → HasStood (history undone ts s) p → HasStood (history undone (ts ++ t ∷ []) after) q
has_stood p q ts t s after back atoms h = λ i a g.
    stood_before ts t s after i a back (h i a (sym (ap (λ (xs : List ℕ). slice_get xs i) atoms) ∙ g))

-- where the last change is undone an atom stood that stood in a past, or stands now and then
pub stood_undone : (ts : List Change) (t : Change) (s : Stage) (i a : ℕ)
    → (get_or s.places i None ≡ Some a → get_or (undone t s).places i None ≡ Some a)
    → Stood (history undone (ts ++ t ∷ []) s) i a → Stood (history undone ts (undone t s)) i a
stood_undone ts t s i a stays h =
    let all = history undone (ts ++ t ∷ []) s in
    let left = history undone ts (undone t s) in
    let count : mark_of left ≡ length ts = length_pasts undone ts (undone t s) in
    elim (cases_lt (length ts) h.mark) [
      | inl last ↦
          let more : mark_of all ≡ length ts + 1 = length_pasts undone (ts ++ t ∷ []) s ∙ length_push ts t in
          stands_now left i a
          (stays (sym (ap (λ (u : Stage). get_or u.places i None) (past_end all h.mark (omega (arith, last, more))))
          ∙ h.there))
      | inr before ↦
          let past : past_at left h.mark ≡ past_at all h.mark =
          sym (ap (λ (g : History Stage). g.now) (undone_pushed undone h.mark ts t s (omega (arith, before)))) in
          record {
            mark = h.mark;
            within = omega (arith, before, count);
            there = ap (λ (u : Stage). get_or u.places i None) past ∙ h.there;
          }
    ]

-- the atoms of an index are below a count where those of the present and of all pasts are
pub stood_below : (n : ℕ) (h : History Stage) (p : Keyed) → PastsBelow n h → HasStood h p → AtomsBelow n p
stood_below n h p below stood = each p.atoms (λ i a g.
    let s = stood i a g in
    atom_below n (past_at h s.mark).places i a (below s.mark) s.there)
  where
    each : (xs : List ℕ) → ((i a : ℕ) → slice_get xs i ≡ Some a → a < n) → AllBelow n xs
    each xs f =
        All-from_get_or (λ c. c < n) xs 0
        (λ i l. f i (get_or xs i 0) (slice_get-get_or xs i 0 l))

-- the atoms of indexes are below a count where those of the present and of all pasts are
pub all_stood_below : (n : ℕ) (w : Recorded) → IndexesStood w → PastsBelow n (history_in w) → IndexedBelow n w
all_stood_below n w stood below =
    All-weaker (HasStood (history_in w)) (AtomsBelow n) (λ p s. stood_below n (history_in w) p below s) w.parts stood

-- ---- pasts below a count

-- one more change keeps all atoms below a count where those that stand then are below it
pub pasts_pushed : (n : ℕ) (h g : History Stage) → KeepsPasts h g → mark_of g ≤ mark_of h + 1 → PastsBelow n h
    → AllBelow n (live_atoms g.now.places) → PastsBelow n g
pasts_pushed n h g keeps one below now m = elim (cases_lt (mark_of h) m) [
  | inl late ↦
      subst (λ (s : Stage). AllBelow n (live_atoms s.places)) (sym (past_end g m (omega (arith, late, one)))) now
  | inr soon ↦
      subst (λ (s : Stage). AllBelow n (live_atoms s.places)) (sym (keeps.past m (omega (arith, soon)))) (below m)
]

-- the atoms that stand now are below what all are below
pub present_below : (n : ℕ) (h : History Stage) → PastsBelow n h → AllBelow n (live_atoms h.now.places)
present_below n h below =
    subst (λ (s : Stage). AllBelow n (live_atoms s.places)) (past_end h (mark_of h) (omega arith)) (below (mark_of h))

-- behind undoing to a mark all atoms are below a count where those up to the mark were
pub pasts_undone : (n mark : ℕ) (h : History Stage)
    → ((m : ℕ) → m ≤ mark → AllBelow n (live_atoms (past_at h m).places)) → PastsBelow n (undone_to mark h)
pasts_undone n mark h below m =
    let now = past_at h mark in
    let all = λ (s : Stage). AllBelow n (live_atoms s.places) in
    elim (cases_lt m mark) [
      | inl before ↦
          let cut : get_or (take mark h.past) m now ≡ get_or h.past m now = get_or-take mark h.past m now before in
          elim (cases_lt m (mark_of h)) [
            | inl there ↦
                subst all (sym (cut ∙ get_or_default h.past m now h.now there)) (below m (omega (arith, before)))
            | inr beyond ↦ subst all (sym (cut ∙ get_or_past h.past m now beyond)) (below mark (omega arith))
          ]
      | inr behind ↦
          subst all (sym (get_or_past (take mark h.past) m now (omega (arith, behind, length-take mark h.past))))
          (below mark (omega arith))
    ]
