-- What an index keeps.
use Rattle.std.specs.Prelude.{◌≡◌, ℕ, suc, ◌<◌, ◌≤◌, List, length, map, Some, ℤ, slice_get, vec_capacity}
use Rattle.frame_strand.specs.Chains.{slot}
use Rattle.frame_strand.specs.declared.finding.IndexEntry.{IndexEntry}
use Rattle.frame_strand.specs.declared.finding.Index.TheInside.{Inside}

abbrev pub listed : Inside → List ℤ
listed x = map (λ (e : IndexEntry). e.at) x.entries.items

-- of the chain's addresses among the first so many the latest is the n-th; 0 where there is none
pub record IsLatest (entries : List IndexEntry) (chain : ℕ) (before : ℕ) (n : ℕ) : Type 0 where
  pub within : n ≤ before
  pub last : (i : ℕ) (e : IndexEntry) → i < before → slice_get entries i ≡ Some e → slot e.at ≡ chain → i < n
  pub there : (i : ℕ) → n ≡ suc i → (e : IndexEntry) × (slice_get entries i ≡ Some e) × (slot e.at ≡ chain)

pub record IsChained (heads : List ℕ) (entries : List IndexEntry) : Type 0 where
  pub chains : length heads ≡ 1024
  pub heads_are : (h n : ℕ) → slice_get heads h ≡ Some n → IsLatest entries h (length entries) n
  pub earlier_are : (j : ℕ) (e : IndexEntry) → slice_get entries j ≡ Some e → IsLatest entries (slot e.at) j e.earlier

pub record IsIndex (x : Inside) : Type 0 where
  pub chained : IsChained x.heads.items x.entries.items
  pub room : 256 ≤ vec_capacity x.entries
  pub few : length x.entries.items ≤ 256
