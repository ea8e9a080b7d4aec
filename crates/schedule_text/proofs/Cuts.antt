-- Where bytes are cut at one of a kind.
use Rattle.std.proofs.Common.{◌≡◌, ℕ, suc, ◌+◌, ◌<◌, Bool, true, false, eqb, List, [], ◌∷◌, ◌++◌, length, take, drop, ◌-◌, refl, sym, ap, ◌∙◌, subst, arith}
use Rattle.std.proofs.lemmas.List.{take_rest, take-append-drop}
use Rattle.std.proofs.Math.Seq.{take-append_seam, drop-append_seam}
use Rattle.std.specs.List.{prefix_len, list_all}
use Rattle.std.proofs.lemmas.Bool.{eqb-true, eq-eqb, and_parts}
use Rattle.schedule_text.specs.Reading.{is_not, CutAt}

pub by_test : {P : Type 0} (b : Bool) → (b ≡ true → P) → (b ≡ false → P) → P
by_test true if_true unless = if_true refl
by_test false if_true unless = unless refl

abbrev pub lacks : ℕ → List ℕ → Type 0
lacks byte xs = list_all (is_not byte) xs ≡ true

pub before_first : (byte : ℕ) (xs : List ℕ) → lacks byte (take (prefix_len (is_not byte) xs) xs)
before_first byte [] = refl
before_first byte (x ∷ xs) = by_test (eqb x byte) (λ (e : eqb x byte ≡ true). rw e refl) (λ (e : eqb x byte ≡ false).
    let more : 1 + prefix_len (is_not byte) xs ≡ suc (prefix_len (is_not byte) xs) = omega arith in
    rw (e, more, e) (before_first byte xs))

at_first : (byte : ℕ) (xs : List ℕ) → prefix_len (is_not byte) xs < length xs → drop (prefix_len (is_not byte) xs) xs ≡ byte ∷ drop (suc (prefix_len (is_not byte) xs)) xs
at_first byte [] h = absurd (omega arith)
at_first byte (x ∷ xs) h = by_test (eqb x byte)
    (λ (e : eqb x byte ≡ true). rw (e, eqb-true x byte e) refl)
    (λ (e : eqb x byte ≡ false). let len : prefix_len (is_not byte) (x ∷ xs) ≡ suc (prefix_len (is_not byte) xs) = rw e (omega arith) in
    rw len (at_first byte xs (omega (arith, len, h))))

pub cut_here : (byte : ℕ) (xs : List ℕ) (n : ℕ) → n ≡ prefix_len (is_not byte) xs → n < length xs → CutAt byte xs (take n xs) (take (length xs - (n + 1)) (drop (n + 1) xs))
cut_here byte xs n same h =
    let more : n + 1 ≡ suc n = omega arith in
    let at : drop n xs ≡ byte ∷ drop (suc n) xs = rw same (at_first byte xs (rw same at h)) in
    record {
      is_split = sym (take-append-drop n xs) ∙ ap (λ (ys : List ℕ). take n xs ++ ys) (at ∙ ap (λ (ys : List ℕ). byte ∷ ys) (ap (λ (k : ℕ). drop k xs) (sym more) ∙ sym (take_rest xs (n + 1))));
      none_before = rw same (before_first byte xs);
    }

-- a byte that stands somewhere is found
pub found : (byte : ℕ) (xs front rest : List ℕ) → xs ≡ front ++ byte ∷ rest → prefix_len (is_not byte) xs < length xs
found byte xs front rest e = subst (λ (ys : List ℕ). prefix_len (is_not byte) ys < length ys) (sym e) (go front)
  where
    go : (front : List ℕ) → prefix_len (is_not byte) (front ++ byte ∷ rest) < length (front ++ byte ∷ rest)
    go [] = rw (eq-eqb byte byte refl) (omega arith)
    go (x ∷ front) = by_test (eqb x byte) (λ (t : eqb x byte ≡ true). rw t (omega arith)) (λ (t : eqb x byte ≡ false). rw t (omega (arith, go front)))

-- whatever follows starts with the byte or is nothing
length_of : (byte : ℕ) (front rest : List ℕ) → lacks byte front → prefix_len (is_not byte) rest ≡ 0 → prefix_len (is_not byte) (front ++ rest) ≡ length front
length_of byte [] rest h none = none
length_of byte (x ∷ front) rest h none =
    let b = and_parts (is_not byte x) (list_all (is_not byte) front) h in
    let later : prefix_len (is_not byte) (front ++ rest) ≡ length front = length_of byte front rest b.1 none in
    rw b.0 (omega (arith, later))

-- the first of a kind is one place
pub same_front : (byte : ℕ) (front other rest more : List ℕ) → lacks byte front → lacks byte other → prefix_len (is_not byte) rest ≡ 0 → prefix_len (is_not byte) more ≡ 0 → front ++ rest ≡ other ++ more → (front ≡ other) × (rest ≡ more)
same_front byte front other rest more h i r m e =
    let same : length front ≡ length other = sym (length_of byte front rest h r) ∙ ap (prefix_len (is_not byte)) e ∙ length_of byte other more i m in (
      sym (take-append_seam front rest) ∙ ap (take (length front)) e ∙ ap (λ (n : ℕ). take n (other ++ more)) same ∙ take-append_seam other more,
      sym (drop-append_seam front rest) ∙ ap (drop (length front)) e ∙ ap (λ (n : ℕ). drop n (other ++ more)) same ∙ drop-append_seam other more,
    )

pub starts : (byte : ℕ) (rest : List ℕ) → prefix_len (is_not byte) (byte ∷ rest) ≡ 0
starts byte rest = rw (eq-eqb byte byte refl) refl

pub same_cut : (byte : ℕ) (front other rest more : List ℕ) → lacks byte front → lacks byte other → front ++ byte ∷ rest ≡ other ++ byte ∷ more → (front ≡ other) × (rest ≡ more)
same_cut byte front other rest more h i e =
    let s = same_front byte front other (byte ∷ rest) (byte ∷ more) h i (starts byte rest) (starts byte more) e in
    (s.0, ap (drop 1) s.1)

pub after_first : (byte : ℕ) (xs : List ℕ) → prefix_len (is_not byte) (drop (prefix_len (is_not byte) xs) xs) ≡ 0
after_first byte [] = refl
after_first byte (x ∷ xs) = by_test (eqb x byte) (λ (e : eqb x byte ≡ true). rw (e, e) refl) (λ (e : eqb x byte ≡ false).
    let more : 1 + prefix_len (is_not byte) xs ≡ suc (prefix_len (is_not byte) xs) = omega arith in
    rw (e, more) (after_first byte xs))
