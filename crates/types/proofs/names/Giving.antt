-- Answers that are their meaning, unless memory was refused.
use Rattle.std.proofs.Common.{◌≡◌, ℕ, ◌+◌, ◌<◌, List, [], ◌∷◌, ◌++◌, length, get_or, take, refl, ap, ◌∙◌, sym, subst, arith, Result, Ok, Err}
use Rattle.std.proofs.lemmas.List.{take_more}
use lib.ListN.{length-take}
use Rattle.refusal.specs.declared.broken.Broken.{Broken as TypeFault}
use Rattle.refusal.specs.declared.refused.Refused.{Refused}
use Rattle.refusal.specs.declared.refused.Refused.TheVariants.{Fault, Memory}
use Rattle.types.specs.names.Fault.{both_of, and_then, made_of, joined_of, all_from, all_of}
use Rattle.types.specs.names.Told.{told_of, Gives, both_answers, pushed, Joins}

-- what takes no memory
pub gives_told : {A : Type 0} (r : Result A Refused) (part x : Result A TypeFault) → r ≡ told_of part → part ≡ x → Gives r x
gives_told {A} r part x e same = subst (λ (s : Result A TypeFault). Gives r s) same (subst (λ (s : Result A Refused). Gives s part) (sym e) (by part))
  where
    by : (part : Result A TypeFault) → Gives (told_of part) part
    by (Ok a) = refl
    by (Err fault) = refl

pub gives_same : {A : Type 0} (r : Result A Refused) (x y : Result A TypeFault) → x ≡ y → Gives r x → Gives r y
gives_same {A} r x y e g = subst (λ (s : Result A TypeFault). Gives r s) e g

pub both_gives : {A B : Type 0} (a : Result A Refused) (x : Result A TypeFault) (b : Result B Refused) (y : Result B TypeFault) → Gives a x → Gives b y → Gives (both_answers a b) (both_of x y)
both_gives (Ok a) x (Ok b) y g h = ap (λ r. both_of r y) g ∙ ap (λ r. both_of (Ok a) r) h
both_gives (Ok a) x (Err Memory) y g h = tt
both_gives (Ok a) x (Err (Fault n l)) y g h = ap (λ r. both_of r y) g ∙ ap (λ r. both_of (Ok a) r) h
both_gives (Err Memory) x (Ok b) y g h = tt
both_gives (Err Memory) x (Err f) y g h = tt
both_gives (Err (Fault n l)) x (Ok b) y g h = ap (λ r. both_of r y) g ∙ ap (λ r. both_of (Err (record { line = l; number = n })) r) h
both_gives (Err (Fault n l)) x (Err Memory) y g h = tt
both_gives (Err (Fault n l)) x (Err (Fault n' l')) y g h = ap (λ r. both_of r y) g ∙ ap (λ r. both_of (Err (record { line = l; number = n })) r) h

-- the good part, and what is made of it
pub good : {A B : Type 0} (f : A → B) (r : Result A Refused) (x : Result A TypeFault) (a : A) → r ≡ Ok a → Gives r x → made_of f x ≡ Ok (f a)
good {A} f r x a e g = let P : Result A Refused → Type 0 = λ s. Gives s x in ap (made_of f) (subst P e g)

-- a fault goes on
pub bad : {A B : Type 0} (f : A → Result B TypeFault) (r : Result A Refused) (x : Result A TypeFault) (fault : Refused) → r ≡ Err fault → Gives r x → Gives (Err fault) (and_then x f)
bad {A} f r x Memory e g = tt
bad {A} {B} f r x (Fault n l) e g =
    let P : Result A Refused → Type 0 = λ s. Gives s x in
    let h : x ≡ Err (record { line = l; number = n }) = subst P e g in
    ap (λ s. and_then s f) h

pub bad_made : {A B : Type 0} (f : A → B) (r : Result A Refused) (x : Result A TypeFault) (fault : Refused) → r ≡ Err fault → Gives r x → Gives (Err fault) (made_of f x)
bad_made {A} f r x Memory e g = tt
bad_made {A} {B} f r x (Fault n l) e g =
    let P : Result A Refused → Type 0 = λ s. Gives s x in
    let h : x ≡ Err (record { line = l; number = n }) = subst P e g in
    ap (made_of f) h

-- one more part behind a list
pushed_gives : {A : Type 0} (both : Result (List A × A) Refused) (x : Result (List A × A) TypeFault) → Gives both x → Gives (pushed both) (made_of (λ p. p.0 ++ p.1 ∷ []) x)
pushed_gives (Ok p) x g = ap (made_of (λ q. q.0 ++ q.1 ∷ [])) g
pushed_gives (Err Memory) x g = tt
pushed_gives (Err (Fault n l)) x g = ap (made_of (λ q. q.0 ++ q.1 ∷ [])) g

join_gives : {A : Type 0} (next : Result (List A) Refused) (both : Result (List A × A) Refused) (x : Result (List A) TypeFault) → Joins next both → Gives (pushed both) x → Gives next x
join_gives {A} (Ok list) both x j g = let P : Result (List A) Refused → Type 0 = λ s. Gives s x in subst P j g
join_gives (Err Memory) both x j g = tt
join_gives {A} (Err (Fault n l)) both x j g = let P : Result (List A) Refused → Type 0 = λ s. Gives s x in subst P j g

pub joined_gives : {A : Type 0} (next list : Result (List A) Refused) (x : Result (List A) TypeFault) (part : Result A Refused) (y : Result A TypeFault) →
    Joins next (both_answers list part) → Gives list x → Gives part y → Gives next (joined_of x y)
joined_gives next list x part y n g h =
    join_gives next (both_answers list part) (joined_of x y) n (pushed_gives (both_answers list part) (both_of x y) (both_gives list x part y g h))

all_from-append : {A B : Type 0} (f : ℕ → A → Result B TypeFault) (n : ℕ) (d : Result (List B) TypeFault) (xs : List A) (x : A) →
    all_from f n d (xs ++ x ∷ []) ≡ joined_of (all_from f n d xs) (f (n + length xs) x)
all_from-append f n d [] x = ap (λ k. joined_of d (f k x)) (omega arith)
all_from-append f n d (y ∷ ys) x =
    all_from-append f (n + 1) (joined_of d (f n y)) ys x
    ∙ ap (λ k. joined_of (all_from f (n + 1) (joined_of d (f n y)) ys) (f k x)) (omega arith)

all_from-more : {A B : Type 0} (f : ℕ → A → Result B TypeFault) (d : Result (List B) TypeFault) (xs : List A) (i : ℕ) (x : A) → i < length xs → x ≡ get_or xs i x →
    all_from f 0 d (take (i + 1) xs) ≡ joined_of (all_from f 0 d (take i xs)) (f i x)
all_from-more {A} f d xs i x within is =
    let more : take (i + 1) xs ≡ take i xs ++ x ∷ [] = take_more xs i x within ∙ ap (λ y. take i xs ++ y ∷ []) (sym is) in
    ap (all_from f 0 d) more
    ∙ all_from-append f 0 d (take i xs) x
    ∙ ap (λ k. joined_of (all_from f 0 d (take i xs)) (f k x)) (omega (arith, length-take i xs))

-- one more element behind what is done already
pub more_step : {A B : Type 0} (f : ℕ → A → Result B TypeFault) (d : Result (List B) TypeFault) (xs : List A) (i : ℕ) (x : A) (next done : Result (List B) Refused) (part : Result B Refused) →
    i < length xs → x ≡ get_or xs i x → Joins next (both_answers done part) → Gives done (all_from f 0 d (take i xs)) → Gives part (f i x) →
    Gives next (all_from f 0 d (take (i + 1) xs))
more_step {A} {B} f d xs i x next done part within is n g p =
    let P : Result (List B) TypeFault → Type 0 = λ s. Gives next s in
    subst P (sym (all_from-more f d xs i x within is)) (joined_gives next done (all_from f 0 d (take i xs)) part (f i x) n g p)

-- one more element of a list
pub all_step : {A B : Type 0} (f : ℕ → A → Result B TypeFault) (xs : List A) (i : ℕ) (x : A) (next done : Result (List B) Refused) (part : Result B Refused) →
    i < length xs → x ≡ get_or xs i x → Joins next (both_answers done part) → Gives done (all_of f (take i xs)) → Gives part (f i x) →
    Gives next (all_of f (take (i + 1) xs))
all_step f xs i x next done part within is n g p = more_step f (Ok []) xs i x next done part within is n g p

-- what follows from a good part
pub then_gives : {A B : Type 0} (f : A → Result B TypeFault) (r : Result A Refused) (x : Result A TypeFault) (a : A) (out : Result B Refused) → r ≡ Ok a → Gives r x → Gives out (f a) → Gives out (and_then x f)
then_gives {A} {B} f r x a out e g h =
    let P : Result A Refused → Type 0 = λ s. Gives s x in
    let is : x ≡ Ok a = subst P e g in
    let Q : Result B TypeFault → Type 0 = λ s. Gives out s in
    subst Q (sym (ap (λ s. and_then s f) is)) h

-- the meaning of an equal value
pub gives_from : {A B : Type 0} (meaning : A → Result B TypeFault) (r : Result B Refused) (x y : A) → x ≡ y → Gives r (meaning x) → Gives r (meaning y)
gives_from {A} meaning r x y same g = let P : A → Type 0 = λ z. Gives r (meaning z) in subst P same g
