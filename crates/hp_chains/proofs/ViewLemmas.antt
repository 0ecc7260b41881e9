-- What contracts see of chains whose links and heads are written.
use Rattle.std.proofs.Common.{◌≡◌, ◌∙◌, ℕ, List, length, sym, ap, subst, arith}
use Rattle.std.specs.Vec.{with_items}
use Rattle.std.proofs.lemmas.List.{with_items_is}
use Rattle.hp_chains.specs.declared.chains.Chains.TheInside.{Inside}
use Rattle.hp_chains.specs.declared.link.Link.{Link}
use Rattle.hp_chains.specs.declared.link.Sides.{Sides}
use Rattle.hp_chains.specs.Chained.{Row, entries_of, row_of, AreRings, IsChained}

module _ (c : Inside) (links : List Link) (heads : List Sides) (count : length links ≡ c.links.len)
    (keys : length heads ≡ c.heads.len) where
  -- chains whose links and heads are written
  abbrev pub written : Inside
  written = record { links = with_items c.links links; heads = with_items c.heads heads }

  pub links_written : written.links.items ≡ links
  links_written = with_items_is c.links links count

  heads_written : written.heads.items ≡ heads
  heads_written = with_items_is c.heads heads keys

  -- contracts see the entries of the links that are written
  pub entries_written : (row_of written).entries ≡ entries_of links
  entries_written = ap entries_of links_written

  -- contracts see all else as it was
  pub row_written : (r : Row) → row_of c ≡ r → row_of written ≡ record r { entries = (row_of written).entries }
  row_written r view =
      let same : length written.heads.items ≡ length c.heads.items =
      omega (arith, ap length heads_written, keys, c.heads.ok.0) in
      ap (λ (k : ℕ). record (row_of written) { keys = k }) same
      ∙ ap (λ (q : Row). record q { entries = (row_of written).entries }) view

  -- written rings are chains
  pub chained_written : AreRings links heads → IsChained c → IsChained written
  chained_written rings h = record {
    rings =
        subst (λ (xs : List Link). AreRings xs written.heads.items) (sym links_written)
        (subst (λ (xs : List Sides). AreRings links xs) (sym heads_written) rings);
    few = omega (arith, ap length links_written, count, c.links.ok.0, h.few);
  }
