-- Parts judged together with one that is as the text has it.
use Rattle.std.proofs.Common.{◌≡◌, refl, ap, ◌∙◌, sym, subst, Result, Ok, Err}
use Rattle.refusal.specs.declared.broken.Broken.{Broken as TypeFault}
use Rattle.refusal.specs.declared.refused.Refused.{Refused}
use Rattle.types.specs.names.Fault.{both_of, made_of, unless_of}
use Rattle.types.specs.names.Told.{told_of, both_answers, Gives}
use Rattle.types.proofs.names.Giving.{gives_told, both_gives, good, bad_made}
use Rattle.std.specs.Prelude.{Bool}

pub kept_give : {A B C : Type 0} (a : Result A Refused) (x : Result A TypeFault) (b : Result B Refused) (y : Result B TypeFault) (s : Result C Refused) (v : C) (m : Result (A × B) Refused) (r : Result ((A × B) × C) Refused) →
    m ≡ both_answers a b → r ≡ both_answers m s → Gives a x → Gives b y → Gives s (Ok v) → Gives r (both_of (both_of x y) (Ok v))
kept_give {A} {B} {C} a x b y s v m r em er ga gb gs =
    let P : Result ((A × B) × C) Refused → Type 0 = λ t. Gives t (both_of (both_of x y) (Ok v)) in
    subst P (sym (er ∙ ap (λ t. both_answers t s) em)) (both_gives (both_answers a b) (both_of x y) s (Ok v) (both_gives a x b y ga gb) gs)

with_kept : {A B C : Type 0} (g : A → C → B) (x : Result A TypeFault) (v : C) → made_of (λ (p : A × C). g p.0 p.1) (both_of x (Ok v)) ≡ made_of (λ a. g a v) x
with_kept g (Ok a) v = refl
with_kept g (Err fault) v = refl

pub good_kept : {A B C : Type 0} (g : A → C → B) (r : Result (A × C) Refused) (x : Result A TypeFault) (v w : C) (a : A) → r ≡ Ok (a, w) → Gives r (both_of x (Ok v)) → made_of (λ a. g a v) x ≡ Ok (g a w)
good_kept {A} {B} {C} g r x v w a e h = sym (with_kept g x v) ∙ good (λ (p : A × C). g p.0 p.1) r (both_of x (Ok v)) (a, w) e h

pub bad_kept : {A B C : Type 0} (f : A → B) (r : Result (A × C) Refused) (x : Result A TypeFault) (v : C) (fault : Refused) → r ≡ Err fault → Gives r (both_of x (Ok v)) → Gives (Err fault) (made_of f x)
bad_kept {A} {B} {C} f r x v fault e h =
    let P : Result B TypeFault → Type 0 = λ t. Gives (Err fault) t in
    subst P (with_kept (λ (a : A) (c : C). f a) x v) (bad_made (λ (p : A × C). f p.0) r (both_of x (Ok v)) fault e h)

pub ruled_gives : {A : Type 0} (a : Result A Refused) (x : Result A TypeFault) (holds is : Bool) (fault is_fault : TypeFault) (u : Result (Unit {0}) TypeFault) (t : Result (Unit {0}) Refused) (r : Result (A × Unit {0}) Refused) →
    holds ≡ is → fault ≡ is_fault → u ≡ unless_of holds fault → t ≡ told_of u → r ≡ both_answers a t → Gives a x → Gives r (both_of x (unless_of is is_fault))
ruled_gives {A} a x holds is fault is_fault u t r eh ef eu et er g =
    let P : Result (A × Unit {0}) Refused → Type 0 = λ s. Gives s (both_of x (unless_of is is_fault)) in
    subst P (sym er) (both_gives a x t (unless_of is is_fault) g (gives_told t u (unless_of is is_fault) et (eu ∙ ap (λ h. unless_of h fault) eh ∙ ap (unless_of is) ef)))

abbrev second : {A C : Type 0} → C → Result (A × C) TypeFault → C
second d (Ok p) = p.1
second d (Err fault) = d

same_kept : {A C : Type 0} (x : Result A TypeFault) (v w : C) (a : A) → both_of x (Ok v) ≡ Ok (a, w) → w ≡ v
same_kept (Ok b) v w a e = sym (ap (second w) e)
same_kept (Err fault) v w a e = cc

pub same_parts : {A C D : Type 0} (r : Result (A × (C × D)) Refused) (x : Result A TypeFault) (n m : C) (p q : D) (a : A) → r ≡ Ok (a, (n, p)) → Gives r (both_of x (Ok (m, q))) → (n ≡ m) × (p ≡ q)
same_parts {A} {C} {D} r x n m p q a e h =
    let P : Result (A × (C × D)) Refused → Type 0 = λ t. Gives t (both_of x (Ok (m, q))) in
    let same : (n, p) ≡ (m, q) = same_kept x (m, q) (n, p) a (subst P e h) in
    (ap (λ (t : C × D). t.0) same, ap (λ (t : C × D). t.1) same)
