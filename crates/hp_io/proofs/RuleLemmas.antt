-- The bytes that a read takes from the rest.
use Rattle.std.proofs.Common.{◌≡◌, ℕ, ◌+◌, ◌<◌, List, [], ◌∷◌, Option, Some, None, min, length, take, drop, slice_get, zero, suc, refl, sym, ◌∙◌, ap, arith}
use Rattle.std.proofs.lemmas.List.{take-append-drop, drop-drop}
use Rattle.hp_io.specs.declared.mem_folder.File.{File}
use Rattle.hp_io.specs.declared.mem_folder.Place.{Place}
use Rattle.hp_io.specs.Rules.{Taken}
use Rattle.hp_io.specs.Files.{bytes_at, rest_from}

-- no byte is read into a buffer with room only where the rest is empty
at_end : (old : List ℕ) (n room : ℕ) → n ≡ min (length old) room → n ≡ 0 → 0 < room → old ≡ []
at_end [] n room count none some = refl
at_end (b ∷ old) n room count none some = absurd (omega arith)

-- a read that copies as many bytes as there is room for takes them from the front of the rest
taken_prefix : (n room : ℕ) (buf old : List ℕ) (new : Option (List ℕ)) → n ≡ min (length old) room
    → take n buf ≡ take n old → new ≡ Some (drop n old) → Taken n room buf (Some old) new
taken_prefix n room buf old new count prefix rest =
    (drop n old, rest, rw prefix (sym (take-append-drop n old)), at_end old n room count)

-- the bytes of a file from a later place on are the rest without its first bytes
further : (f : Option File) (at' n : ℕ) → bytes_at f (at' + n) ≡ drop n (bytes_at f at')
further None at' zero = refl
further None at' (suc n) = refl
further (Some f) at' n = sym (drop-drop n at' f.bytes.items)

-- a place that moves by as many bytes as were copied takes them from the rest
pub taken_at : (fs : List File) (p : Place) (n room : ℕ) (buf rest : List ℕ) (old new : Option (List ℕ))
    → old ≡ rest_from fs (Some p) → rest ≡ bytes_at (slice_get fs p.file) p.at → n ≡ min (length rest) room
    → take n buf ≡ take n rest → new ≡ rest_from fs (Some record { file = p.file; at = p.at + n })
    → Taken n room buf old new
taken_at fs p n room buf rest old new before is count prefix after =
    let moved = further (slice_get fs p.file) p.at n ∙ ap (drop n) (sym is) in
    rw (before, ← is) (taken_prefix n room buf rest new count prefix (after ∙ ap Some moved))
