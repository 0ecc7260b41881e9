-- Where the telling of an input goes on, and where it stops.
use Rattle.std.proofs.Common.{◌≡◌, ℕ, ◌+◌, ◌<◌, ◌≤◌, Bool, true, false, ◌==◌, cond, List, [], ◌∷◌, ◌++◌, length, take, drop, get_or, Option, Some, None, codes, refl, ap, sym, subst, ◌∙◌, append_assoc, append-nil, length-append, arith}
use Rattle.hp_io.specs.Rules.{Rose, Taken}
use Rattle.hp_out.specs.Writing.{SinkRun, sink_run, Wrote}
use Rattle.hp_out.proofs.WritingLemmas.{prefix_longer, proper_longer, prefix_after, proper_after}
use Rattle.hp_out.proofs.WriteSteps.{wrote_both}
use Rattle.hp_syntax.specs.declared.status.Status.{Status}
use Rattle.hp_syntax.specs.declared.status.Status.TheVariants as status
use Rattle.hp_doctor.specs.declared.telling.Halt.{Halt}
use Rattle.hp_doctor.specs.declared.telling.Halt.TheVariants.{NoMemory, Failed}
use Rattle.hp_doctor.specs.Explained.{explained, explained_line, explanation_by, left, next_line, told, told_at}
use Rattle.hp_doctor.specs.Findings.{finding_of}
use Rattle.hp_doctor.specs.Telling.{Halts, Stops, HaltsIn, Came, IsThrough}
use Rattle.hp_doctor.specs.Texts.{Texts}
use Rattle.hp_doctor.proofs.ToldLemmas.{told-append, left-append, told_more, left_more, told_split}

-- ---- stops

-- a stop of the telling of a text behind another is one of every text that begins with both
pub halts_within : (h : Halt) (x y z text : List ℕ) (f g k : ℕ) (a b c : Option (List ℕ)) → f ≤ g → Wrote x a b
    → Halts h y (sink_run g k b c) → text ≡ (x ++ y) ++ z → Halts h text (sink_run f k a c)
halts_within NoMemory x y z text f g k a b c e w h same =
    subst (λ t. Halts NoMemory t (sink_run f k a c)) (sym same)
    (prefix_longer (x ++ y) z a c (prefix_after x y a b c w h))
halts_within Failed x y z text f g k a b c e w h same =
    let rose : Rose g k = h.0 in
    subst (λ t. Halts Failed t (sink_run f k a c)) (sym same)
    (omega arith, proper_longer (x ++ y) z a c (proper_after x y a b c w h.1))

-- a stop is one, whatever the text was
pub stops : (h : Halt) (text : List ℕ) (f g k : ℕ) (a b c : Option (List ℕ)) → f ≤ g → Halts h text (sink_run g k b c)
    → Stops h (sink_run f k a c)
stops NoMemory text f g k a b c e h = tt
stops Failed text f g k a b c e h = let rose : Rose g k = h.0 in omega arith

-- ---- a piece

module _ (t : Texts) (line now xs : List ℕ) (i : ℕ) (f g k : ℕ) (a b c : Option (List ℕ)) (within : i < length xs)
    (wrote : Wrote (told t line (take i xs)) a b) (kept : now ≡ left line (take i xs)) where
  -- one more byte was told
  pub byte_wrote : Wrote (told_at t now (get_or xs i 0)) b c → Wrote (told t line (take (i + 1) xs)) a c
  byte_wrote w =
      subst (λ r. Wrote r a c)
      (ap (λ l. told t line (take i xs) ++ told_at t l (get_or xs i 0)) kept
      ∙ sym (told_more t line xs i (get_or xs i 0) within refl))
      (wrote_both (told t line (take i xs)) (told_at t now (get_or xs i 0)) a b c wrote w)

  pub byte_kept : (after : List ℕ) → after ≡ next_line now (get_or xs i 0) → after ≡ left line (take (i + 1) xs)
  byte_kept after e =
      e ∙ ap (λ l. next_line l (get_or xs i 0)) kept ∙ sym (left_more line xs i (get_or xs i 0) within refl)

  -- the telling stopped at a byte
  pub byte_halts : (h : Halt) → f ≤ g → Halts h (told_at t now (get_or xs i 0)) (sink_run g k b c)
      → Halts h (told t line xs) (sink_run f k a c)
  byte_halts h e s =
      halts_within h (told t line (take i xs)) (told_at t now (get_or xs i 0)) _ (told t line xs) f g k a b c e wrote s
      (told_split t line xs i (get_or xs i 0) within refl
      ∙ ap (λ l. (told t line (take i xs) ++ told_at t l (get_or xs i 0))
      ++ told t (left line (take (i + 1) xs)) (drop (i + 1) xs)) (sym kept))

-- ---- what came

-- nothing came where nothing was read
pub came_none : (old : Option (List ℕ)) → Came [] old old
came_none None = refl
came_none (Some all) = (all, refl, refl)

-- a piece came behind others
pub came_more : (seen buffer : List ℕ) (n room : ℕ) (old mid new : Option (List ℕ)) → Came seen old mid
    → Taken n room buffer mid new → Came (seen ++ take n buffer) old new
came_more seen buffer n room None mid new c t = subst (λ m. Taken n room buffer m new) c t
came_more seen buffer n room (Some all) mid new c t =
    let t' = subst (λ m. Taken n room buffer m new) c.1 t in
    (t'.0, t'.1, c.2 ∙ ap (λ r. seen ++ r) t'.2 ∙ sym (append_assoc seen (take n buffer) t'.0))

-- ---- all that is written

-- what is written of two texts is the lines of the first, and then those of the second and what it leaves
explained-append : (t : Texts) (xs ys : List ℕ)
    → explained t (xs ++ ys) ≡ told t [] xs ++ (told t (left [] xs) ys ++ left (left [] xs) ys)
explained-append t xs ys =
    ap (λ r. r ++ left [] (xs ++ ys)) (told-append t [] xs ys)
    ∙ append_assoc (told t [] xs) (told t (left [] xs) ys) (left [] (xs ++ ys))
    ∙ ap (λ r. told t [] xs ++ (told t (left [] xs) ys ++ r)) (left-append [] xs ys)

-- what is written begins with the lines of what was seen and those of a piece behind it
begins_with_piece : (t : Texts) (seen piece rest : List ℕ)
    → explained t (seen ++ (piece ++ rest))
    ≡ (told t [] seen ++ told t (left [] seen) piece)
    ++ (told t (left (left [] seen) piece) rest ++ left (left (left [] seen) piece) rest)
begins_with_piece t seen piece rest =
    let line = left [] seen in
    explained-append t seen (piece ++ rest)
    ∙ ap (λ r. told t [] seen ++ (r ++ left line (piece ++ rest))) (told-append t line piece rest)
    ∙ ap (λ r. told t [] seen ++ ((told t line piece ++ told t (left line piece) rest) ++ r))
    (left-append line piece rest)
    ∙ simp append_assoc

-- what follows a line at its end or its next byte
abbrev rest_of_line : Texts → Bool → List ℕ → ℕ → List ℕ → List ℕ
rest_of_line t true line b more = codes "\n" ++ explanation_by t (finding_of line) ++ more
rest_of_line t false line b more = b ∷ more

-- what is written of a text that goes on behind a line begins with that line
pub line_first : (t : Texts) (line rest : List ℕ)
    → (z : List ℕ) × (told t line rest ++ left line rest ≡ line ++ z)
line_first t line [] = ([], sym (append-nil line))
line_first t line (b ∷ bs) = line_by (b == 10) t line b bs (line_first t (line ++ b ∷ []) bs)
  where
    line_by : (ends : Bool) (t : Texts) (line : List ℕ) (b : ℕ) (bs : List ℕ)
        → (z : List ℕ) × (told t (line ++ b ∷ []) bs ++ left (line ++ b ∷ []) bs ≡ (line ++ b ∷ []) ++ z)
        → (z : List ℕ)
        × ((cond ends (explained_line t line) [] ++ told t (cond ends [] (line ++ b ∷ [])) bs)
        ++ left (cond ends [] (line ++ b ∷ [])) bs ≡ line ++ z)
    line_by true t line b bs h =
        (codes "\n" ++ (explanation_by t (finding_of line) ++ (told t [] bs ++ left [] bs)), simp append_assoc)
    line_by false t line b bs h = (b ∷ h.0, h.1 ∙ append_assoc line (b ∷ []) h.0)

-- ---- an input

module _ (t : Texts) (n : ℕ) (line : List ℕ) (f g k : ℕ) (old mid : Option (List ℕ)) (a b c : Option (List ℕ)) where
  -- one more piece was told
  pub through_more : (m room : ℕ) (buffer after : List ℕ) (new : Option (List ℕ))
      → IsThrough t n line old mid (sink_run f g a b) → Taken m room buffer mid new → 0 < length (take m buffer)
      → Wrote (told t line (take m buffer)) b c → after ≡ left line (take m buffer)
      → IsThrough t (n + 1) after old new (sink_run f k a c)
  through_more m room buffer after new i taken some w kept = record {
    seen = i.seen ++ take m buffer;
    some = omega (arith, i.some, length-append i.seen (take m buffer));
    came = came_more i.seen buffer m room old mid new i.came taken;
    wrote =
        subst (λ r. Wrote r a c)
        (ap (λ l. told t [] i.seen ++ told t l (take m buffer)) i.kept ∙ sym (told-append t [] i.seen (take m buffer)))
        (wrote_both (told t [] i.seen) (told t line (take m buffer)) a b c i.wrote w);
    kept = kept ∙ ap (λ l. left l (take m buffer)) i.kept ∙ sym (left-append [] i.seen (take m buffer));
  }

  -- the telling of a piece stopped
  pub halts_through : (h : Halt) (m room : ℕ) (buffer : List ℕ) (new : Option (List ℕ))
      → IsThrough t n line old mid (sink_run f g a b) → Taken m room buffer mid new → f ≤ g
      → Halts h (told t line (take m buffer)) (sink_run g k b c) → HaltsIn h t old (sink_run f k a c)
  halts_through h m room buffer new i taken e s =
      piece_stops old (came_more i.seen buffer m room old mid new i.came taken)
    where
      piece_stops : (all : Option (List ℕ)) → Came (i.seen ++ take m buffer) all new
          → HaltsIn h t all (sink_run f k a c)
      piece_stops None came = stops h (told t line (take m buffer)) f g k a b c e s
      piece_stops (Some all) came =
          halts_within h (told t [] i.seen) (told t line (take m buffer)) _ (explained t all) f g k a b c e i.wrote s
          (ap (explained t) (came.2 ∙ append_assoc i.seen (take m buffer) came.0)
          ∙ begins_with_piece t i.seen (take m buffer) came.0
          ∙ ap (λ l. (told t [] i.seen ++ told t l (take m buffer))
          ++ (told t (left (left [] i.seen) (take m buffer)) came.0
          ++ left (left (left [] i.seen) (take m buffer)) came.0)) (sym i.kept))

  -- what is left of the last line couldn't be written
  pub rest_halts : (h : Halt) → IsThrough t n line old mid (sink_run f g a b) → f ≤ g
      → Halts h line (sink_run g k b c) → HaltsIn h t old (sink_run f k a c)
  rest_halts h i e s = rest_stops old i.came
    where
      rest_stops : (all : Option (List ℕ)) → Came i.seen all mid → HaltsIn h t all (sink_run f k a c)
      rest_stops None came = stops h line f g k a b c e s
      rest_stops (Some all) came =
          let z = line_first t line came.0 in
          halts_within h (told t [] i.seen) line z.0 (explained t all) f g k a b c e i.wrote s
          (ap (explained t) came.2 ∙ explained-append t i.seen came.0
          ∙ ap (λ l. told t [] i.seen ++ (told t l came.0 ++ left l came.0)) (sym i.kept)
          ∙ ap (λ r. told t [] i.seen ++ r) z.1 ∙ sym (append_assoc (told t [] i.seen) line z.0))

-- a status tells by which stop the telling ended
pub stop_told : (h : Halt) (s : Status) (t : Texts) (all : Option (List ℕ)) (r : SinkRun)
    → (h ≡ NoMemory → s ≡ status.NoMemory) → (h ≡ Failed → s ≡ status.WriteFault) → HaltsIn h t all r
    → (s ≡ status.NoMemory → HaltsIn NoMemory t all r) × (s ≡ status.WriteFault → HaltsIn Failed t all r)
stop_told NoMemory s t all r n f w = (λ e. w, λ e. let told : s ≡ status.NoMemory = n refl in cc)
stop_told Failed s t all r n f w = (λ e. let told : s ≡ status.WriteFault = f refl in cc, λ e. w)
