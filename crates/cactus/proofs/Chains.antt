-- A chain of frames, put in one on top of the other.
use Rattle.std.proofs.Common.{◌≡◌, ◌≢◌, ℕ, suc, ◌+◌, ◌≤◌, ◌<◌, List, [], ◌∷◌, ◌++◌, length, Option, Some, None, refl, sym, ap, ◌∙◌, subst, arith, append_assoc, append-nil}
use Rattle.std.specs.List.{All}
use Rattle.std.proofs.lemmas.List.Elements.{All-cons, All-head, All-nil, All-tail}
use Rattle.std.proofs.lemmas.List.{length-append}
use Rattle.cactus.specs.declared.node.Link.{Link}
use Rattle.cactus.specs.declared.node.Node.{Node}
use Rattle.cactus.specs.Frames.{Frames, node_at, IsAdded}
use Rattle.cactus.specs.ByPath.{named, IsTree, Binds}
use Rattle.cactus.specs.Chain.{AddsUpTo, GrowsChain, IsChained, RiseFrom, StandsLinked}
use Rattle.cactus.proofs.ByPathLemmas.{added_binds, added_stays, named_is}

module _ {F : Type 0} where
  -- one more on top
  pub chain_more : (old mid new : Frames F) (parent slot top : ℕ) (links : List (Link F)) (slots : List ℕ) (link : Link F) → AddsUpTo old mid parent links slots slot →
      IsAdded mid new link.path (Some slot) link.frame top → AddsUpTo old new parent (links ++ link ∷ []) (slots ++ top ∷ []) top
  chain_more old mid new parent slot top [] [] link was added =
      (new, subst (λ (f : Frames F). IsAdded f new link.path (Some parent) link.frame top) was.0 (subst (λ (p : ℕ). IsAdded mid new link.path (Some p) link.frame top) was.1 added), (refl, refl))
  chain_more old mid new parent slot top [] (s ∷ slots) link was added = absurd was
  chain_more old mid new parent slot top (first ∷ links) [] link was added = absurd was
  chain_more old mid new parent slot top (first ∷ links) (s ∷ slots) link was added =
      let (f, one, rest) = was in (f, one, chain_more f mid new s slot top links slots link rest added)

  -- paths above a path are longer
  longer : (numbers : List ℕ) (links : List (Link F)) → RiseFrom numbers links → All (λ (link : Link F). length numbers < length link.path.numbers) links
  longer numbers [] rise = All-nil (λ (link : Link F). length numbers < length link.path.numbers)
  longer numbers (link ∷ links) rise =
      let (n, is) = rise.0 in
      let one : length link.path.numbers ≡ length numbers + 1 = ap (λ (xs : List ℕ). length xs) is ∙ length-append numbers (n ∷ []) in
      All-cons (λ (link : Link F). length numbers < length link.path.numbers) link links (omega (arith, one))
      (deeper numbers link.path.numbers one links (longer link.path.numbers links rise.1))
    where
      deeper : (xs ys : List ℕ) → length ys ≡ length xs + 1 → (more : List (Link F)) → All (λ (link : Link F). length ys < length link.path.numbers) more → All (λ (link : Link F). length xs < length link.path.numbers) more
      deeper xs ys one [] all = All-nil (λ (link : Link F). length xs < length link.path.numbers)
      deeper xs ys one (l ∷ more) all =
          let here = All-head (λ (link : Link F). length ys < length link.path.numbers) l more all in
          All-cons (λ (link : Link F). length xs < length link.path.numbers) l more (omega (arith, one, here))
          (deeper xs ys one more (All-tail (λ (link : Link F). length ys < length link.path.numbers) l more all))

  -- so they are others
  apart : (numbers : List ℕ) (links : List (Link F)) → All (λ (link : Link F). length numbers < length link.path.numbers) links → All (λ (link : Link F). numbers ≢ link.path.numbers) links
  apart numbers [] all = All-nil (λ (link : Link F). numbers ≢ link.path.numbers)
  apart numbers (l ∷ more) all =
      let here = All-head (λ (link : Link F). length numbers < length link.path.numbers) l more all in
      All-cons (λ (link : Link F). numbers ≢ link.path.numbers) l more
      (λ e. (let same : length numbers ≡ length l.path.numbers = ap (λ (xs : List ℕ). length xs) e in absurd (omega (arith, here, same))))
      (apart numbers more (All-tail (λ (link : Link F). length numbers < length link.path.numbers) l more all))

  free_after : (old mid : Frames F) (numbers : List ℕ) → ((other : List ℕ) → other ≢ numbers → named mid other ≡ named old other) → (links : List (Link F)) →
      All (λ (link : Link F). numbers ≢ link.path.numbers) links → All (λ (link : Link F). named old link.path.numbers ≡ None) links → All (λ (link : Link F). named mid link.path.numbers ≡ None) links
  free_after old mid numbers same [] others free = All-nil (λ (link : Link F). named mid link.path.numbers ≡ None)
  free_after old mid numbers same (l ∷ more) others free =
      let away = All-head (λ (link : Link F). numbers ≢ link.path.numbers) l more others in
      All-cons (λ (link : Link F). named mid link.path.numbers ≡ None) l more
      (same l.path.numbers (λ e. away (sym e)) ∙ All-head (λ (link : Link F). named old link.path.numbers ≡ None) l more free)
      (free_after old mid numbers same more (All-tail (λ (link : Link F). numbers ≢ link.path.numbers) l more others) (All-tail (λ (link : Link F). named old link.path.numbers ≡ None) l more free))

  pub chained : (links : List (Link F)) (slots : List ℕ) (old new : Frames F) (parent top : ℕ) → AddsUpTo old new parent links slots top → GrowsChain old new parent links
  chained [] [] old new parent top adds above tree stands rise free =
      record {
        tree = subst (λ (f : Frames F). IsTree f) (sym adds.0) tree;
        made = (let e : new.made ≡ old.made = ap (λ (f : Frames F). f.made) adds.0 in omega (arith, e));
        here = All-nil (StandsLinked new);
        elsewhere = λ numbers all. ap (λ (f : Frames F). named f numbers) adds.0;
        stays = λ slot node is. ap (λ (f : Frames F). node_at f slot) adds.0 ∙ is;
      }
  chained [] (slot ∷ slots) old new parent top adds above tree stands rise free = absurd adds
  chained (link ∷ links) [] old new parent top adds above tree stands rise free = absurd adds
  chained (link ∷ links) (slot ∷ slots) old new parent top adds above tree stands rise free =
      let (mid, one, rest) = adds in
      let (number, is) = rise.0 in
      let fresh : named old link.path.numbers ≡ None = All-head (λ (l : Link F). named old l.path.numbers ≡ None) link links free in
      let binds = added_binds old mid link.path (Some parent) link.frame slot tree one fresh
      (λ none. absurd (cc))
      (λ p e. record { above = above; stands = (let same : parent ≡ p = cc in subst (λ q. node_at old q ≡ Some above) same stands); number = number; is = is }) in
      let made_node : Node F = record { generation = old.made; path = link.path; parent = Some parent; frame = link.frame } in
      let others = apart link.path.numbers links (longer link.path.numbers links rise.1) in
      let more = chained links slots mid new slot top rest made_node binds.tree one.change.changed rise.1
      (free_after old mid link.path.numbers binds.elsewhere links others (All-tail (λ (l : Link F). named old l.path.numbers ≡ None) link links free)) in
      record {
        tree = more.tree;
        made = (let a : new.made ≡ mid.made + length links = more.made in let b : mid.made ≡ old.made + 1 = one.made in omega (arith, a, b));
        here = All-cons (StandsLinked new) link links
            (record { node = made_node; is = more.elsewhere link.path.numbers others ∙ binds.here; path = refl; frame = refl })
            more.here;
        elsewhere = λ numbers all.
            more.elsewhere numbers (All-tail (λ (l : Link F). numbers ≢ l.path.numbers) link links all)
            ∙ binds.elsewhere numbers (All-head (λ (l : Link F). numbers ≢ l.path.numbers) link links all);
        stays = λ s node was. more.stays s node (added_stays old mid link.path (Some parent) link.frame slot tree one fresh s node was);
      }

  -- with the one that is next
  pub chain_next : (old mid new : Frames F) (parent slot top : ℕ) (done left more all : List (Link F)) (slots : List ℕ) (link : Link F) (room bound : ℕ) (taken after long longer : ℕ) →
      (done ++ left ≡ all) → (long ≡ length left) → AddsUpTo old mid parent done slots slot → taken + length left ≤ room → mid.made + length left < bound →
      left ≡ link ∷ more → longer + 1 ≡ long → IsAdded mid new link.path (Some slot) link.frame top → after ≡ taken + 1 →
      ((done ++ link ∷ []) ++ more ≡ all) × (longer ≡ length more) × AddsUpTo old new parent (done ++ link ∷ []) (slots ++ top ∷ []) top × (after + length more ≤ room) × (new.made + length more < bound)
  chain_next old mid new parent slot top done left more all slots link room bound taken after long longer whole many chain fits low is one_less added one =
      let n : length left ≡ suc (length more) = ap (λ (xs : List (Link F)). length xs) is in
      let made = added.made in (
        append_assoc done (link ∷ []) more ∙ (ap (λ (xs : List (Link F)). done ++ xs) (sym is) ∙ whole),
        omega (arith, n, many, one_less),
        chain_more old mid new parent slot top done slots link chain added,
        omega (arith, fits, n, one),
        omega (arith, low, n, made),
      )

  pub chain_whole : (old new : Frames F) (parent top : ℕ) (done left links : List (Link F)) (slots : List ℕ) → done ++ left ≡ links → length left ≡ 0 →
      AddsUpTo old new parent done slots top → AddsUpTo old new parent links slots top
  chain_whole old new parent top done [] links slots whole none chain = subst (λ (xs : List (Link F)). AddsUpTo old new parent xs slots top) (sym (append-nil done) ∙ whole) chain
  chain_whole old new parent top done (l ∷ left) links slots whole none chain = absurd (omega (arith, none))
