-- The names that may stand at the head of an atom of each kind.
use Rattle.std.specs.Prelude.{ℕ, Bool, List}
use Rattle.hp_syntax.specs.Names.{is_plain, is_primitive, is_compound}
use Rattle.hp_terms.specs.declared.names.HeadKind.{HeadKind}
use Rattle.hp_terms.specs.declared.names.HeadKind.TheVariants as kinds

abbrev pub fits_of : HeadKind → List ℕ → Bool
fits_of kinds.Plain = is_plain
fits_of kinds.Primitive = is_primitive
fits_of kinds.Compound = is_compound
