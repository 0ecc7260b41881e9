-- What stands on a page before a sink.
use Rattle.std.proofs.Common.{◌≡◌, ℕ, ◌+◌, ◌-◌, ◌<◌, ◌≤◌, List, [], ◌++◌, length, take, drop, Option, Some, None, arith, refl, ap, sym, subst, ◌∙◌, append_assoc, append-nil, length-append, length-drop}
use Rattle.std.proofs.Math.Seq.{take-append_seam}
use Rattle.std.proofs.lemmas.List.{take-append-drop, append_cancel_left, drop-drop}
use Rattle.hp_io.specs.Rules.{Appended}
use Rattle.hp_out.specs.Paged.{IsGrown, WroteUpTo, laid}
use Rattle.hp_out.specs.Writing.{Wrote, WrotePrefix, WroteProperPrefix}
use Rattle.hp_out.proofs.WriteSteps.{write_step}

-- ---- writing

-- behind what is written the sink takes some more
pub some_more : (page : List ℕ) (from to n : ℕ) (a b c : Option (List ℕ)) → WroteUpTo page from to a b
    → n ≤ length (drop to page) → Appended n (drop to page) b c → WroteUpTo page from (to + n) a c
some_more page from to n a b c w h t =
    let later : from ≤ to = w.later in
    let within : to ≤ length page = w.within in
    let turned : from + (to - from) ≡ to = omega arith in
    let count : (to - from) + n ≡ (to + n) - from = omega arith in
    let rest : drop (to - from) (drop from page) ≡ drop to page =
    drop-drop (to - from) from page ∙ ap (λ i. drop i page) turned in
    record {
      later = omega arith;
      within = omega (arith, h, length-drop to page);
      wrote =
          subst (λ i. Wrote (take i (drop from page)) a c) count
          (write_step (drop from page) (to - from) n a b c w.wrote (subst (λ t. Appended n t b c) (sym rest) t));
    }

-- what is written and what is left are what stood on the page
pub written_and_left : (page : List ℕ) (from to : ℕ) (a b : Option (List ℕ)) → WroteUpTo page from to a b
    → laid b (drop to page) ≡ laid a (drop from page)
written_and_left page from to None b w = ap (λ m. laid m (drop to page)) w.wrote
written_and_left page from to (Some a) b w =
    let later : from ≤ to = w.later in
    let turned : from + (to - from) ≡ to = omega arith in
    let rest : drop (to - from) (drop from page) ≡ drop to page =
    drop-drop (to - from) from page ∙ ap (λ i. drop i page) turned in
    let some = take (to - from) (drop from page) in
    ap (λ m. laid m (drop to page)) w.wrote
    ∙ ap Some (append_assoc a some (drop to page) ∙ ap (λ t. a ++ t) (ap (λ t. some ++ t) (sym rest)
    ∙ take-append-drop (to - from) (drop from page)))

-- ---- what was taken

-- nothing that is laid before a sink
pub laid_nothing : (rest : List ℕ) (b : Option (List ℕ)) → rest ≡ [] → laid b rest ≡ b
laid_nothing rest None e = refl
laid_nothing rest (Some b) e = ap (λ t. Some (b ++ t)) e ∙ ap Some (append-nil b)

abbrev bytes_in : Option (List ℕ) → List ℕ
bytes_in None = []
bytes_in (Some a) = a

same_bytes : (a b : List ℕ) → Some a ≡ Some b → a ≡ b
same_bytes a b e = ap bytes_in e

-- ---- a text that was written to a page before a sink

-- bytes that were appended are a prefix of each text that goes on from them
prefix_of : (text d more a b : List ℕ) → d ++ more ≡ text → b ≡ a ++ d → WrotePrefix text (Some a) (Some b)
prefix_of text d more a b e f = (
  length d,
  omega (arith, length-append d more, ap length e),
  ap Some (f ∙ ap (λ t. a ++ t) (sym (take-append_seam d more) ∙ ap (take (length d)) e)),
)

proper_of : (text d more a b : List ℕ) → 0 < length more → d ++ more ≡ text → b ≡ a ++ d
    → WroteProperPrefix text (Some a) (Some b)
proper_of text d more a b h e f = (
  length d,
  omega (arith, h, length-append d more, ap length e),
  ap Some (f ∙ ap (λ t. a ++ t) (sym (take-append_seam d more) ∙ ap (take (length d)) e)),
)

-- what a sink took more, and what stands before it, are what both had more
took_more : (a b rest text : List ℕ) → IsGrown (Some a) (Some b) → Some (b ++ rest) ≡ Some (a ++ text)
    → drop (length a) b ++ rest ≡ text
took_more a b rest text g e =
    let d = drop (length a) b in
    append_cancel_left a (d ++ rest) text
    (sym (append_assoc a d rest) ∙ ap (λ t. t ++ rest) (sym (same_bytes b (a ++ d) g))
    ∙ same_bytes (b ++ rest) (a ++ text) e)

-- a text goes on from what a sink took more of a prefix of it
took_of : (a b rest text : List ℕ) (n : ℕ) → IsGrown (Some a) (Some b) → Some (b ++ rest) ≡ Some (a ++ take n text)
    → drop (length a) b ++ (rest ++ drop n text) ≡ text
took_of a b rest text n g e =
    let d = drop (length a) b in
    sym (append_assoc d rest (drop n text))
    ∙ ap (λ t. t ++ drop n text) (took_more a b rest (take n text) g e)
    ∙ take-append-drop n text

abbrev is_none : Option (List ℕ) → Type 0
is_none None = Unit {0}
is_none (Some a) = ⊥

-- a sink that told what it took goes on telling
tells_still : (a : List ℕ) → IsGrown (Some a) None → ⊥
tells_still a g = subst is_none g tt

-- where a prefix of a text was written to the page, one was written to the sink
pub prefix_behind : (text rest : List ℕ) (a b : Option (List ℕ)) → IsGrown a b → WrotePrefix text a (laid b rest)
    → WrotePrefix text a b
prefix_behind text rest None b g w = g
prefix_behind text rest (Some a) None g w = absurd (tells_still a g)
prefix_behind text rest (Some a) (Some b) g w =
    prefix_of text (drop (length a) b) (rest ++ drop w.0 text) a b (took_of a b rest text w.0 g w.2)
    (same_bytes b (a ++ drop (length a) b) g)

-- where a proper prefix of a text was written to the page, one was written to the sink
pub proper_behind : (text rest : List ℕ) (a b : Option (List ℕ)) → IsGrown a b
    → WroteProperPrefix text a (laid b rest) → WroteProperPrefix text a b
proper_behind text rest None b g w = g
proper_behind text rest (Some a) None g w = absurd (tells_still a g)
proper_behind text rest (Some a) (Some b) g w =
    let n = w.0 in
    let h : n < length text = w.1 in
    proper_of text (drop (length a) b) (rest ++ drop n text) a b
    (omega (arith, h, length-append rest (drop n text), length-drop n text))
    (took_of a b rest text n g w.2) (same_bytes b (a ++ drop (length a) b) g)

-- where a text was written to the page, and some of it still stands there, a proper prefix was written to the sink
pub part_behind : (text rest : List ℕ) (a b : Option (List ℕ)) → 0 < length rest → IsGrown a b
    → Wrote text a (laid b rest) → WroteProperPrefix text a b
part_behind text rest None b h g w = g
part_behind text rest (Some a) None h g w = absurd (tells_still a g)
part_behind text rest (Some a) (Some b) h g w =
    proper_of text (drop (length a) b) rest a b h (took_more a b rest text g w)
    (same_bytes b (a ++ drop (length a) b) g)

-- where a text was written to the page, and nothing stands there, it was written to the sink
pub all_behind : (text rest : List ℕ) (a b : Option (List ℕ)) → rest ≡ [] → Wrote text a (laid b rest)
    → Wrote text a b
all_behind text rest a b e w = subst (Wrote text a) (laid_nothing rest b e) w

-- ---- a piece
