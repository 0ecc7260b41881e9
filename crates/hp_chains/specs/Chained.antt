-- Chains by links, and what they stand for. The chain of a key is a ring through its head.
use Rattle.std.specs.Prelude.{ℕ, ◌-◌, ◌<◌, ◌^◌, List, Option, Some, None, min, length, map, slice_index_or, slice_set, vec_capacity}
use Rattle.hp_chains.specs.declared.chains.Chains.TheInside.{Inside}
use Rattle.hp_chains.specs.declared.link.Sides.{Sides}
use Rattle.hp_chains.specs.declared.link.Link.{Link}
use Rattle.hp_chains.specs.declared.link.Link.TheVariants as kinds
use Rattle.hp_chains.specs.Entries.{Entry, Bare, Standing, Loose, StandsAt, Reversed, IsNearest}

-- entries, of which so many keys may be had, and so many there is room for
pub record Row : Type 0 where
  pub entries : List Entry
  pub keys : ℕ
  pub room : ℕ

-- what contracts see of a link
abbrev pub entry_of : Link → Entry
entry_of kinds.Bare = Bare
entry_of (kinds.Standing key sides) = Standing key
entry_of (kinds.Loose key sides) = Loose key sides.previous sides.next

-- what contracts see of links
abbrev pub entries_of : List Link → List Entry
entries_of links = map entry_of links

-- what contracts see of chains
abbrev pub row_of : Inside → Row
row_of c = record {
  entries = entries_of c.links.items;
  keys = length c.heads.items;
  room = min (vec_capacity c.links) (2 ^ 32 - 1);
}

-- nothing on either side
abbrev pub no_sides : Sides
no_sides = record { previous = None; next = None }

-- the sides of a link, nothing where it has no key
abbrev pub sides_of : Link → Sides
sides_of kinds.Bare = no_sides
sides_of (kinds.Standing key sides) = sides
sides_of (kinds.Loose key sides) = sides

-- the sides of a stop of the ring of a key: of one of its places, or of its head, which is no place
abbrev pub sides_at : List Link → List Sides → ℕ → Option ℕ → Sides
sides_at links heads key None = slice_index_or heads key no_sides
sides_at links heads key (Some i) = sides_of (slice_index_or links i kinds.Bare)

-- a stop of a ring: its head, or a place that stands there
abbrev pub IsStop : (ℕ → Type 0) → Option ℕ → Type 0
IsStop Stands None = Unit {0}
IsStop Stands (Some i) = Stands i

-- a place is beyond a stop, by an order, and each place beyond the head
abbrev pub IsBeyond : (ℕ → ℕ → Type 0) → Option ℕ → ℕ → Type 0
IsBeyond Before None i = Unit {0}
IsBeyond Before (Some j) i = Before j i

-- the first place that stands beyond a stop, by an order; none where the head comes next
abbrev pub IsBeside : (ℕ → ℕ → Type 0) → (ℕ → Type 0) → Option ℕ → Option ℕ → Type 0
IsBeside Before Stands stop = IsNearest Before (IsBeyond Before stop) Stands

-- one side of each stop tells the first place of its key beyond it, by an order
abbrev pub TellsBeside : (ℕ → ℕ → Type 0) → (Sides → Option ℕ) → List Link → List Sides → Type 0
TellsBeside Before side links heads =
    (key : ℕ) (stop : Option ℕ) → key < length heads → IsStop (StandsAt key (entries_of links)) stop
    → IsBeside Before (StandsAt key (entries_of links)) stop (side (sides_at links heads key stop))

-- each stop of the ring of a key tells the stop before it and the one behind it
pub record AreRings (links : List Link) (heads : List Sides) : Type 0 where
  pub next : TellsBeside ◌<◌ (λ s. s.next) links heads
  pub previous : TellsBeside (Reversed ◌<◌) (λ s. s.previous) links heads
  pub keys : (key i : ℕ) → StandsAt key (entries_of links) i → key < length heads

-- links are rings, and their places have numbers of 32 bits
pub record IsChained (c : Inside) : Type 0 where
  pub rings : AreRings c.links.items c.heads.items
  pub few : length c.links.items < 2 ^ 32

-- sides with another next stop
abbrev pub with_next : Option ℕ → Sides → Sides
with_next stop sides = record sides { next = stop }

-- sides with another previous stop
abbrev pub with_previous : Option ℕ → Sides → Sides
with_previous stop sides = record sides { previous = stop }

-- a link with changed sides, if it has any
abbrev pub turned : (Sides → Sides) → Link → Link
turned f kinds.Bare = kinds.Bare
turned f (kinds.Standing key sides) = kinds.Standing key (f sides)
turned f (kinds.Loose key sides) = kinds.Loose key (f sides)

-- links where the sides of a stop are changed
abbrev pub turned_links : (Sides → Sides) → Option ℕ → List Link → List Link
turned_links f None links = links
turned_links f (Some i) links = slice_set links i (turned f (slice_index_or links i kinds.Bare))

-- heads where the sides of a stop of the ring of a key are changed
abbrev pub turned_heads : (Sides → Sides) → ℕ → Option ℕ → List Sides → List Sides
turned_heads f key None heads = slice_set heads key (f (slice_index_or heads key no_sides))
turned_heads f key (Some i) heads = heads

-- links where two stops are next to each other
abbrev pub joined_links : Option ℕ → Option ℕ → List Link → List Link
joined_links previous next links =
    turned_links (with_previous previous) next (turned_links (with_next next) previous links)

-- heads where two stops of the ring of a key are next to each other
abbrev pub joined_heads : ℕ → Option ℕ → Option ℕ → List Sides → List Sides
joined_heads key previous next heads =
    turned_heads (with_previous previous) key next (turned_heads (with_next next) key previous heads)
