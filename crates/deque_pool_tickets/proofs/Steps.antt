-- Each step on the tickets keeps the rule of the list.
use Rattle.std.proofs.Common.{◌≡◌, ◌≢◌, ℕ, zero, suc, ◌<◌, ◌⊎◌, ◌==◌, Bool, true, false, List, [], ◌∷◌, ◌++◌, length, length-append, append-nil, set, sym, refl, ap, ◌∙◌, subst, inl, inr, ⊎_elim, eq-eqb, ne_eqb, arith}
use Rattle.std.specs.Prelude.{if◌then◌else◌, drop}
use Rattle.std.proofs.lemmas.Bool.{eqb-true, true≢false}
use Rattle.std.proofs.lemmas.List.{length-set}
use mathlib.Core.Option.{some, some-ne-none, some-injective}
use lib.ListN.{get_elem?}
use Rattle.crossbeam_deque.specs.Tasks.{Pushes, Takes, Pops, Admits, Finds, FindsFew, Learns, Merges}
use Rattle.crossbeam_deque.proofs.Lists.{at_set}
use Rattle.shared_run.specs.schedule_core.declared.ready.Ticket.{Ticket}
use Rattle.deque_pool_tickets.specs.declared.ticket_list.Move.{Move}
use Rattle.deque_pool_tickets.specs.declared.ticket_list.Move.TheVariants.{Offer, Newest, Oldest}
use Rattle.deque_pool_tickets.specs.declared.ticket_list.View.{View}
use Rattle.deque_pool_tickets.specs.TicketList.{AreOfOne, Turn, Leads, moves_of, FitsSeat, GoesOnFrom, IsPlayed, Makes, MayHaveFew, WithOffers, WithNewest, WithOldest, both, spent, view_of}

-- where a list longer by one has a value: it had it, or it is the last
at_snoc_where : (l : List View) (a b : View) (j : ℕ) → get_elem? (l ++ a ∷ []) j ≡ some b → (get_elem? l j ≡ some b) ⊎ ((a ≡ b) × (j ≡ length l))
at_snoc_where [] a b zero e = inr (some-injective a b e, refl)
at_snoc_where [] a b (suc j) e = absurd (some-ne-none b (sym e))
at_snoc_where (x ∷ xs) a b zero e = inl e
at_snoc_where (x ∷ xs) a b (suc j) e = ⊎_elim inl (λ t. inr (t.0, ap suc t.1)) (at_snoc_where xs a b j e)

within : (l : List View) (j : ℕ) (v : View) → get_elem? l j ≡ some v → j < length l
within [] j v e = absurd (some-ne-none v (sym e))
within (x ∷ xs) zero v e = omega arith
within (x ∷ xs) (suc j) v e = let h = within xs j v e in omega arith

pick : {A : Type 0} (b : Bool) (x y : A) → b ≡ true → (if b then x else y) ≡ x
pick true x y e = refl
pick false x y e = cc

skip : {A : Type 0} (b : Bool) (x y : A) → b ≡ false → (if b then x else y) ≡ y
skip false x y e = refl
skip true x y e = cc

-- a step of this seat
mine : (seat : ℕ) (m : Move) (log : List Turn) → moves_of seat ((seat, m) ∷ log) ≡ m ∷ moves_of seat log
mine seat m log = pick (seat == seat) _ _ (eq-eqb seat seat refl)

other : (at seat : ℕ) (m : Move) (log : List Turn) → seat ≢ at → moves_of seat ((at, m) ∷ log) ≡ moves_of seat log
other at seat m log n = skip (at == seat) _ _ (ne_eqb at seat (λ e. n (sym e)))

-- a step more
longer : (turn : Turn) (log seen : List Turn) → GoesOnFrom log seen → GoesOnFrom (turn ∷ log) seen
longer turn log seen h = (turn ∷ h.0, ap (λ l. turn ∷ l) h.1)

-- what the seat knows after the step
abbrev after : (log : List Turn) (port : ℕ) (v : View) (m : Move) → View
after log port v m = view_of v.owns (m ∷ v.moves) ((port, m) ∷ log)

-- whatever the step is, the views of all seats fit again
moves_on : (items items' : List Ticket) (views : List View) (port : ℕ) (v : View) (m : Move) → v.lives ≡ true → (h : IsPlayed items views) → get_elem? views port ≡ some v → Leads ((port, m) ∷ h.0) items' → IsPlayed items' (set views port (after h.0 port v m))
moves_on items items' views port v m lives h at leads =
    let log = h.0 in let w = after log port v m in
    let len : length (set views port w) ≡ length views = length-set views port w in
    let here = within views port v at in (
      (port, m) ∷ log,
      leads,
      λ seat u e.
          ⊎_elim
          (λ (t : (seat ≡ port) × (w ≡ u)). subst (λ (y : ℕ × View). FitsSeat ((port, m) ∷ log) y.0 y.1) (λ i. (sym t.0 i, t.1 i)) ((λ _. mine port m log ∙ ap (λ xs. m ∷ xs) ((h.2 port v at).0 lives)), (h.2 port v at).1, ([], refl), ((port, m) ∷ log, sym (append-nil ((port, m) ∷ log)))))
          (λ (t : (seat ≢ port) × (get_elem? views seat ≡ some u)). ((λ l. other port seat m log t.0 ∙ (h.2 seat u t.1).0 l), (h.2 seat u t.1).1, longer (port, m) log u.seen (h.2 seat u t.1).2, longer (port, m) log u.told (h.2 seat u t.1).3))
          (at_set views port seat w u e),
      λ seat far. other port seat m log (λ e. absurd (omega arith)) ∙ h.3 seat (omega arith),
      (omega (arith, h.4)),
    )

-- what the step tells its seat
makes : (items items' : List Ticket) (views : List View) (port : ℕ) (v : View) (m : Move) → v.lives ≡ true → (h : IsPlayed items views) → get_elem? views port ≡ some v → Leads ((port, m) ∷ h.0) items' → Makes v m (after h.0 port v m)
makes items items' views port v m lives h at leads = let mine_is = h.2 port v at in (
  refl,
  refl,
  refl,
  record {
    seat = port;
    others = mine_is.2.0;
    last = ap (λ l. (port, m) ∷ l) mine_is.2.1;
    own = mine port m h.0 ∙ ap (λ ms. m ∷ ms) (mine_is.0 lives);
    tickets = items';
    leads = leads;
  },
)

-- the owner's seat is 0, and no other is
is_owner : (items : List Ticket) (views : List View) (port : ℕ) (v : View) → (h : IsPlayed items views) → get_elem? views port ≡ some v → v.owns ≡ true → port ≡ 0
is_owner items views port v h at owns = eqb-true port 0 (sym (h.2 port v at).1 ∙ owns)

is_thief : (items : List Ticket) (views : List View) (port : ℕ) (v : View) → (h : IsPlayed items views) → get_elem? views port ≡ some v → v.owns ≡ false → port ≢ 0
is_thief items views port v h at owns zero_is = true≢false (sym (eq-eqb port 0 zero_is) ∙ sym (h.2 port v at).1 ∙ owns)

pub pushes : (port : ℕ) (v : View) (t : Ticket) → v.lives ≡ true → v.owns ≡ true → Pushes IsPlayed port v (t ∷ []) (WithOffers v (t ∷ []))
pushes port v t lives owns items views h at =
    let leads : Leads ((port, Offer t) ∷ h.0) (items ++ t ∷ []) = (is_owner items views port v h at owns, (items, refl, h.1)) in (
      after h.0 port v (Offer t),
      moves_on items (items ++ t ∷ []) views port v (Offer t) lives h at leads,
      makes items (items ++ t ∷ []) views port v (Offer t) lives h at leads,
    )

pub pops : (port : ℕ) (v : View) → v.lives ≡ true → v.owns ≡ true → Pops IsPlayed port v (WithNewest v)
pops port v lives owns t items views h at =
    let leads : Leads ((port, Newest t) ∷ h.0) items = (is_owner (items ++ t ∷ []) views port v h at owns, h.1) in (
      after h.0 port v (Newest t),
      moves_on (items ++ t ∷ []) items views port v (Newest t) lives h at leads,
      makes (items ++ t ∷ []) items views port v (Newest t) lives h at leads,
    )

pub takes : (port : ℕ) (v : View) → v.lives ≡ true → v.owns ≡ false → Takes IsPlayed port v 1 (WithOldest v)
takes port v lives owns [] items views one few h at = absurd (omega arith)
takes port v lives owns (t ∷ []) items views one few h at =
    let leads : Leads ((port, Oldest t) ∷ h.0) items = (is_thief (t ∷ items) views port v h at owns, h.1) in (
      after h.0 port v (Oldest t),
      moves_on (t ∷ items) items views port v (Oldest t) lives h at leads,
      makes (t ∷ items) items views port v (Oldest t) lives h at leads,
    )
takes port v lives owns (t ∷ s ∷ ts) items views one few h at = absurd (omega arith)

-- at a moment when few tickets are left
pub finds : (most port : ℕ) (v : View) → v.lives ≡ true → FindsFew IsPlayed most port v (MayHaveFew most v.moves v.seen)
finds most port v lives items views few h at = let mine_is = h.2 port v at in record {
  seat = port;
  others = mine_is.2.0;
  own = subst (λ (l : List Turn). moves_of port l ≡ v.moves) mine_is.2.1 (mine_is.0 lives);
  tickets = items;
  leads = subst (λ (l : List Turn). Leads l items) mine_is.2.1 h.1;
  few = few;
}

pub finds_none : (port : ℕ) (v : View) → v.lives ≡ true → Finds IsPlayed port v (MayHaveFew 0 v.moves v.seen)
finds_none port v lives views h at = finds 0 port v lives [] views (omega arith) h at

pub admits : Admits IsPlayed (view_of false [] [])
admits items views h = (
  h.0,
  h.1,
  λ seat u e. ⊎_elim (λ x. h.2 seat u x)
      (λ (t : (view_of false [] [] ≡ u) × (seat ≡ length views)).
      ((λ _. h.3 seat (omega arith) ∙ ap (λ (y : View). y.moves) t.0), sym (ap (λ (y : View). y.owns) t.0) ∙ sym (ne_eqb seat 0 (λ z. absurd (omega (arith, h.4)))), subst (λ (y : View). GoesOnFrom h.0 y.seen) t.0 (h.0, sym (append-nil h.0)), subst (λ (y : View). GoesOnFrom h.0 y.told) t.0 (h.0, sym (append-nil h.0))))
      (at_snoc_where views (view_of false [] []) u seat e),
  λ seat far. h.3 seat (let l = length-append views (view_of false [] [] ∷ []) in omega arith),
  (let l = length-append views (view_of false [] [] ∷ []) in omega arith),
)

-- of two ends of one list the longer ends with the other
ends_of_one : (newer newest seen told : List Turn) → newer ++ seen ≡ newest ++ told → AreOfOne seen told
ends_of_one [] newest seen told e = inl (newest, e)
ends_of_one (x ∷ xs) [] seen told e = inr (x ∷ xs, sym e)
ends_of_one (x ∷ xs) (y ∷ ys) seen told e = ends_of_one xs ys seen told (ap (λ l. drop 1 l) e)

pub compares : (port : ℕ) (v : View) → Learns IsPlayed port v (λ tickets. AreOfOne v.seen v.told)
compares port v items views h at = let mine_is = h.2 port v at in ends_of_one mine_is.2.0 mine_is.3.0 v.seen v.told (sym mine_is.2.1 ∙ mine_is.3.1)

pub takes_in : (port : ℕ) (v : View) (at : ℕ) (w : View) → w.owns ≡ false → Merges IsPlayed port v at w (both v w) spent
takes_in port v at' w owns items views h at apart there =
    let vs = set views port (both v w) in
    let len : length vs ≡ length views = length-set views port (both v w) in
    let far : length (set vs at' spent) ≡ length vs = length-set vs at' spent in
    let was : get_elem? views at' ≡ some w = ⊎_elim (λ x. absurd (apart x.0)) (λ x. x.1) (at_set views port at' (both v w) w there) in
    let mine_is = h.2 port v at in
    let theirs = h.2 at' w was in (
      h.0,
      h.1,
      λ seat u e.
          ⊎_elim
          (λ (t : (seat ≡ at') × (spent ≡ u)). subst (λ (y : ℕ × View). FitsSeat h.0 y.0 y.1) (λ i. (sym t.0 i, t.1 i)) ((λ l. cc), sym owns ∙ theirs.1, (h.0, sym (append-nil h.0)), (h.0, sym (append-nil h.0))))
          (λ (t : (seat ≢ at') × (get_elem? vs seat ≡ some u)).
          ⊎_elim
          (λ (q : (seat ≡ port) × (both v w ≡ u)). subst (λ (y : ℕ × View). FitsSeat h.0 y.0 y.1) (λ i. (sym q.0 i, q.1 i)) (mine_is.0, mine_is.1, mine_is.2, theirs.2))
          (λ (q : (seat ≢ port) × (get_elem? views seat ≡ some u)). h.2 seat u q.1)
          (at_set views port seat (both v w) u t.1))
          (at_set vs at' seat spent u e),
      λ seat far'. h.3 seat (omega (arith, len, far)),
      omega (arith, len, far, h.4),
    )
