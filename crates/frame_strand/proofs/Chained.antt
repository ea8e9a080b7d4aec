-- Chains lead to each address, and stay so as addresses are added.
use Rattle.std.proofs.Common.{◌≡◌, ◌≢◌, ℕ, zero, suc, true, false, ◌+◌, ◌<◌, ◌≤◌, List, [], ◌∷◌, ◌++◌, length, length-append, map, refl, ap, sym, ◌∙◌, subst, arith, ℤ, Option, Some, None, inl, inr, ◌⊎◌}
use Rattle.std.specs.Prelude.{eqb, slice_get, slice_set}
use Rattle.std.specs.Option.{option_map}
use Rattle.std.proofs.lemmas.Bool.Decides.{eqb_tells}
use Rattle.std.proofs.lemmas.Option.{same_Some, slice_get_within, slice_get-map}
use Rattle.frame.proofs.Changes.{get_set, get_other}
use Rattle.frame_strand.specs.Chains.{slot}
use Rattle.frame_strand.specs.Indexing.{IsLatest, IsChained}
use Rattle.frame_strand.specs.declared.finding.IndexEntry.{IndexEntry}

-- each place of the address is among the first n, the last of which is in its chain
pub record Searching (entries : List IndexEntry) (a : ℤ) (n : ℕ) : Type 0 where
  pub within : n ≤ length entries
  pub last : (i : ℕ) (e : IndexEntry) → slice_get entries i ≡ Some e → e.at ≡ a → i < n
  pub there : (i : ℕ) → n ≡ suc i → (e : IndexEntry) × (slice_get entries i ≡ Some e) × (slot e.at ≡ slot a)

pub searching_first : (heads : List ℕ) (entries : List IndexEntry) (a : ℤ) (n : ℕ) → IsChained heads entries → slice_get heads (slot a) ≡ Some n → Searching entries a n
searching_first heads entries a n c is =
    let l = c.heads_are (slot a) n is in
    record { within = l.within; last = λ i e h same. l.last i e (slice_get_within entries i e h) h (ap slot same); there = l.there }

pub searching_on : (heads : List ℕ) (entries : List IndexEntry) (a : ℤ) (n i : ℕ) (e : IndexEntry) → IsChained heads entries → Searching entries a n → n ≡ suc i → slice_get entries i ≡ Some e → e.at ≢ a → Searching entries a e.earlier × (e.earlier < n)
searching_on heads entries a n i e c s is h other =
    let l = c.earlier_are i e h in
    let (d, g, chain) = s.there i is in
    let same : slot e.at ≡ slot a = ap (λ (x : IndexEntry). slot x.at) (same_Some e d (sym h ∙ g)) ∙ chain in
    let w = l.within in
    let v = s.within in (
      record {
        within = omega arith;
        last = λ j x k there.
            let lt = s.last j x k there in
            let apart : j ≢ i = λ q. other (ap (λ (y : IndexEntry). y.at) (same_Some e x (sym h ∙ sym (ap (slice_get entries) q) ∙ k)) ∙ there) in
            l.last j x (omega (arith, apart)) k (ap slot there ∙ sym same);
        there = λ j q. let (x, k, t) = l.there j q in (x, k, t ∙ same);
      },
      omega arith,
    )

pub listed_at : (entries : List IndexEntry) (i : ℕ) (e : IndexEntry) (a : ℤ) → slice_get entries i ≡ Some e → e.at ≡ a → slice_get (map (λ (x : IndexEntry). x.at) entries) i ≡ Some a
listed_at entries i e a h same = slice_get-map (λ (x : IndexEntry). x.at) entries i ∙ ap (option_map (λ (x : IndexEntry). x.at)) h ∙ ap (λ z. Some z) same

listed_from : (o : Option IndexEntry) (a : ℤ) → option_map (λ (x : IndexEntry). x.at) o ≡ Some a → (e : IndexEntry) × (o ≡ Some e) × (e.at ≡ a)
listed_from None a h = absurd cc
listed_from (Some e) a h = (e, refl, same_Some e.at a h)

pub not_listed : (entries : List IndexEntry) (a : ℤ) (n : ℕ) → Searching entries a n → n ≡ 0 → (i : ℕ) → slice_get (map (λ (x : IndexEntry). x.at) entries) i ≢ Some a
not_listed entries a n s none i h =
    let (e, there, same) = listed_from (slice_get entries i) a (sym (slice_get-map (λ (x : IndexEntry). x.at) entries i) ∙ h) in
    let lt = s.last i e there same in
    omega arith

-- ---- an address more

pub get_before : {X : Type 0} (xs : List X) (y : X) (i : ℕ) → i < length xs → slice_get (xs ++ y ∷ []) i ≡ slice_get xs i
get_before [] y i h = absurd (omega arith)
get_before (x ∷ xs) y zero h = refl
get_before (x ∷ xs) y (suc i) h = get_before xs y i (omega arith)

pub get_last : {X : Type 0} (xs : List X) (y : X) → slice_get (xs ++ y ∷ []) (length xs) ≡ Some y
get_last [] y = refl
get_last (x ∷ xs) y = get_last xs y

pub length_push : {X : Type 0} (xs : List X) (y : X) → length (xs ++ y ∷ []) ≡ length xs + 1
length_push xs y = length-append xs (y ∷ [])

-- the places before are as they were
latest_kept : (entries : List IndexEntry) (y : IndexEntry) (chain before n : ℕ) → before ≤ length entries → IsLatest entries chain before n → IsLatest (entries ++ y ∷ []) chain before n
latest_kept entries y chain before n le l = record {
  within = l.within;
  last = λ i e lt h. l.last i e lt (sym (get_before entries y i (omega arith)) ∙ h);
  there = λ i q. let (e, h, t) = l.there i q in let w = l.within in (e, get_before entries y i (omega arith) ∙ h, t);
}

-- the new one is the latest of its chain, and of no other
latest_other : (entries : List IndexEntry) (y : IndexEntry) (chain n : ℕ) → slot y.at ≢ chain → IsLatest entries chain (length entries) n → IsLatest (entries ++ y ∷ []) chain (length (entries ++ y ∷ [])) n
latest_other entries y chain n apart l =
    let more = length_push entries y in
    let w = l.within in
    record {
      within = omega arith;
      last = λ i e lt h same. from i e h same (eqb_tells i (length entries)) (omega arith);
      there = λ i q. let (e, h, t) = l.there i q in (e, get_before entries y i (omega arith) ∙ h, t);
    }
  where
    from : (i : ℕ) (e : IndexEntry) → slice_get (entries ++ y ∷ []) i ≡ Some e → slot e.at ≡ chain → ((eqb i (length entries) ≡ true) × (i ≡ length entries)) ⊎ ((eqb i (length entries) ≡ false) × (i ≢ length entries)) → i < length entries + 1 → i < n
    from i e h same (inl k) lt =
        let new : y ≡ e = same_Some y e (sym (get_last entries y) ∙ sym (ap (slice_get (entries ++ y ∷ [])) k.1) ∙ h) in
        absurd (apart (ap (λ (x : IndexEntry). slot x.at) new ∙ same))
    from i e h same (inr k) lt = let ne = k.1 in let less : i < length entries = omega (arith, ne) in l.last i e less (sym (get_before entries y i less) ∙ h) same

latest_new : (entries : List IndexEntry) (y : IndexEntry) → IsLatest (entries ++ y ∷ []) (slot y.at) (length (entries ++ y ∷ [])) (length entries + 1)
latest_new entries y =
    let more = length_push entries y in
    record {
      within = omega arith;
      last = λ i e lt h same. omega arith;
      there = λ i q. let is : length entries ≡ i = omega arith in (y, sym (ap (slice_get (entries ++ y ∷ [])) is) ∙ get_last entries y, refl);
    }

pub chained_push : (heads : List ℕ) (entries : List IndexEntry) (y : IndexEntry) → IsChained heads entries → slice_get heads (slot y.at) ≡ Some y.earlier → (h n : ℕ) → n ≡ length entries + 1 → h ≡ slot y.at → length (slice_set heads h n) ≡ length heads → h < length heads → IsChained (slice_set heads h n) (entries ++ y ∷ [])
chained_push heads entries y c was h n is at same lt = record {
  chains = same ∙ c.chains;
  heads_are = λ k m g. head k m g (eqb_tells k h);
  earlier_are = λ j e g. before j e g (eqb_tells j (length entries)) (subst (λ (x : ℕ). j < x) (length_push entries y) (slice_get_within (entries ++ y ∷ []) j e g));
}
  where
    head : (k m : ℕ) → slice_get (slice_set heads h n) k ≡ Some m → ((eqb k h ≡ true) × (k ≡ h)) ⊎ ((eqb k h ≡ false) × (k ≢ h)) → IsLatest (entries ++ y ∷ []) k (length (entries ++ y ∷ [])) m
    head k m g (inl q) =
        let e : m ≡ length entries + 1 = same_Some m n (sym g ∙ ap (slice_get (slice_set heads h n)) q.1 ∙ get_set heads h n lt) ∙ is in
        let chain : slot y.at ≡ k = sym (q.1 ∙ at) in
        subst (λ (x : ℕ). IsLatest (entries ++ y ∷ []) k (length (entries ++ y ∷ [])) x) (sym e) (subst (λ (x : ℕ). IsLatest (entries ++ y ∷ []) x (length (entries ++ y ∷ [])) (length entries + 1)) chain (latest_new entries y))
    head k m g (inr q) = latest_other entries y k m (λ z. q.1 (sym (at ∙ z))) (c.heads_are k m (sym (get_other heads h k n q.1) ∙ g))

    before : (j : ℕ) (e : IndexEntry) → slice_get (entries ++ y ∷ []) j ≡ Some e → ((eqb j (length entries) ≡ true) × (j ≡ length entries)) ⊎ ((eqb j (length entries) ≡ false) × (j ≢ length entries)) → j < length entries + 1 → IsLatest (entries ++ y ∷ []) (slot e.at) j e.earlier
    before j e g (inl q) less =
        let new : y ≡ e = same_Some y e (sym (get_last entries y) ∙ sym (ap (slice_get (entries ++ y ∷ [])) q.1) ∙ g) in
        subst (λ (x : IndexEntry). IsLatest (entries ++ y ∷ []) (slot x.at) j x.earlier) new (subst (λ (x : ℕ). IsLatest (entries ++ y ∷ []) (slot y.at) x y.earlier) (sym q.1) (latest_kept entries y (slot y.at) (length entries) y.earlier (omega arith) (c.heads_are (slot y.at) y.earlier was)))
    before j e g (inr q) less =
        let ne = q.1 in
        let lt2 : j < length entries = omega (arith, ne) in
        latest_kept entries y (slot e.at) j e.earlier (omega arith) (c.earlier_are j e (sym (get_before entries y j lt2) ∙ g))

-- ---- an address less

-- the last address's chain is led to as it was before that one was added
latest_before : (entries : List IndexEntry) (y : IndexEntry) (chain n : ℕ) → IsLatest (entries ++ y ∷ []) chain (length entries) n → IsLatest entries chain (length entries) n
latest_before entries y chain n l = record {
  within = l.within;
  last = λ i e lt h. l.last i e lt (get_before entries y i lt ∙ h);
  there = λ i q. let (e, h, t) = l.there i q in let w = l.within in (e, sym (get_before entries y i (omega arith)) ∙ h, t);
}

-- each other chain has none less
latest_without : (entries : List IndexEntry) (y : IndexEntry) (chain n : ℕ) → slot y.at ≢ chain → IsLatest (entries ++ y ∷ []) chain (length (entries ++ y ∷ [])) n → IsLatest entries chain (length entries) n
latest_without entries y chain n apart l =
    let more = length_push entries y in
    let w = l.within in
    record {
      within = from (eqb_tells n (length entries + 1)) (omega arith);
      last = λ i e lt h. l.last i e (omega arith) (get_before entries y i lt ∙ h);
      there = λ i q. let (e, h, t) = l.there i q in let v = from (eqb_tells n (length entries + 1)) (omega arith) in (e, sym (get_before entries y i (omega arith)) ∙ h, t);
    }
  where
    from : ((eqb n (length entries + 1) ≡ true) × (n ≡ length entries + 1)) ⊎ ((eqb n (length entries + 1) ≡ false) × (n ≢ length entries + 1)) → n ≤ length entries + 1 → n ≤ length entries
    from (inl k) le =
        let is = k.1 in
        let (e, h, t) = l.there (length entries) (omega arith) in
        absurd (apart (ap (λ (x : IndexEntry). slot x.at) (same_Some y e (sym (get_last entries y) ∙ h)) ∙ t))
    from (inr k) le = let ne = k.1 in omega (arith, ne)

pub chained_pop : (heads : List ℕ) (entries : List IndexEntry) (y : IndexEntry) → IsChained heads (entries ++ y ∷ []) → (h : ℕ) → h ≡ slot y.at → length (slice_set heads h y.earlier) ≡ length heads → h < length heads → IsChained (slice_set heads h y.earlier) entries
chained_pop heads entries y c h at same lt = record {
  chains = same ∙ c.chains;
  heads_are = λ k m g. head k m g (eqb_tells k h);
  earlier_are = λ j e g.
      let less = slice_get_within entries j e g in
      let l = c.earlier_are j e (get_before entries y j less ∙ g) in
      record {
        within = l.within;
        last = λ i x b q. l.last i x b (get_before entries y i (omega arith) ∙ q);
        there = λ i q. let (x, b, t) = l.there i q in let w = l.within in (x, sym (get_before entries y i (omega arith)) ∙ b, t);
      };
}
  where
    head : (k m : ℕ) → slice_get (slice_set heads h y.earlier) k ≡ Some m → ((eqb k h ≡ true) × (k ≡ h)) ⊎ ((eqb k h ≡ false) × (k ≢ h)) → IsLatest entries k (length entries) m
    head k m g (inl q) =
        let e : m ≡ y.earlier = same_Some m y.earlier (sym g ∙ ap (slice_get (slice_set heads h y.earlier)) q.1 ∙ get_set heads h y.earlier lt) in
        let chain : slot y.at ≡ k = sym (q.1 ∙ at) in
        subst (λ (x : ℕ). IsLatest entries k (length entries) x) (sym e) (subst (λ (x : ℕ). IsLatest entries x (length entries) y.earlier) chain (latest_before entries y (slot y.at) y.earlier (c.earlier_are (length entries) y (get_last entries y))))
    head k m g (inr q) = latest_without entries y k m (λ z. q.1 (sym (at ∙ z))) (c.heads_are k m (sym (get_other heads h k y.earlier q.1) ∙ g))

pub nil_of : {X : Type 0} (xs : List X) → length xs ≡ 0 → xs ≡ []
nil_of [] h = refl
nil_of (x ∷ xs) h = absurd (omega arith)
