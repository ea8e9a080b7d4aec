use Rattle.std.proofs.Common.{rules, Vec, Global, [], ◌≡◌, ℕ, ◌+◌, ◌<◌, length, Option, true, sym, ap, ◌∙◌, subst, arith}
use Rattle.std.specs.Option.{option_copied_mut}
use Rattle.std.proofs.Math.Logic.{∥∥₁_elim}
use Rattle.std.proofs.Props.{props}
use Rattle.std.specs.Vec.{vec_len}
use Rattle.semantics.specs.Events.{Step}
use Rattle.frame_engine.specs.Activation.{FrameFits}
use Rattle.frame_engine.specs.Names.{HasResult, taker_of}
use Rattle.schedule_workers.specs.declared.activation.Activation.{Activation}
use Rattle.schedule_workers.specs.declared.run.Run.{Run}
use Rattle.schedule_workers.specs.Follows.{Follows}
use Rattle.schedule_workers.specs.Stalls.{NotesStalls}
use Rattle.schedule_workers.proofs.Leaving.{found_above, lives_mid}
use Rattle.schedule_workers.proofs.Living.{as_many_hands}
use Rattle.schedule_workers.proofs.Onward.{fits_prop, not_there}
use Rattle.schedule_workers.proofs.Noted.{end_notes, last_notes, run_free}
use Rattle.schedule_workers.proofs.Returned.{goes_on, has_register, has_result_prop, handed, no_result, number_is, return_names, root_result, run_ends}
use Rattle.schedule_workers.proofs.Syncing.{LeadsTo}
use Rattle.schedule_workers.proofs.Uses.{end_follows, removed_follows}
use Rattle.schedule_workers.proofs.run.Run.return_with.Goals as goal
use Rattle.schedule_workers.proofs.run.Run.return_with.Goals.{in-Some+in-Some-frame_mut, in_default+then-is_some, in_default+else-is_some}

pub pop_call-over-requires : goal.pop_call-over-requires
pop_call-over-requires c = ∥∥₁_elim c.requires.safe (hlevel props) (λ s. s.shown.agrees.held c.args.worker c.args.slot c.requires.hand)

pub returned-number-requires : goal.returned-number-requires
returned-number-requires c =
    let over = c.pop_call-over.result in
    let stands = c.pop_call-over.ensures.value in
    let fits : FrameFits c.args.program.now over.frame.frame = ∥∥₁_elim c.requires.safe (fits_prop _ _) (λ s. (s.shown.agrees.nodes c.args.slot over stands).fits) in
    return_names c.args.program.now c.args.places.now _ over.frame.frame c.args.value c.requires.text fits (c.requires.item over stands)

pub overflow_add-self : goal.overflow_add-self
overflow_add-self c =
    let low : c.args.self.now.instructions + 2 < 9223372036854775808 = ∥∥₁_elim c.requires.safe (hlevel props) (λ s. let a = (s.safe []).counted in let b = s.shown.shows.done in omega (arith, a, b)) in
    record { fits = omega (arith, low) }

pub unreachable-requires : goal.unreachable-requires
unreachable-requires c = ∥∥₁_elim c.requires.safe (hlevel props) (λ s.
    let there = lives_mid c.args.program.now c.args.places.now c.args.self.now c.args.slot c.pop_call-over.result c.pop_call-over.ensures.value s.machine s.shown (s.safe []).tree c.pop_call-over.new.self c.pop_call-over.ensures.rest c.in-Some.above c.in-Some.is in
    not_there c.pop_call-over.new.self c.in-Some.above there (sym c.frame_mut.ensures.value ∙ ap option_copied_mut c.in_default-frame_mut.is))

pub take_result-requires : goal.take_result-requires
take_result-requires c =
    let k = c.args.self.now in
    let over = c.pop_call-over.result in
    let stands = c.pop_call-over.ensures.value in
    let mid = c.pop_call-over.new.self in
    let removed = c.pop_call-over.ensures.rest in
    let found = sym c.frame_mut.ensures.value ∙ ap option_copied_mut c.in-Some-frame_mut.is in
    ∥∥₁_elim c.requires.safe (has_result_prop _ _) (λ s.
    let same = found_above c.args.program.now c.args.places.now k c.args.slot over stands s.machine s.shown (s.safe []).tree mid removed c.in-Some.above c.in-Some.is c.in-Some-frame_mut.caller.now found in
    let has = has_register c.args.program.now c.args.places.now k c.args.slot over stands s.machine s.shown c.args.value (c.requires.item over stands) c.args.worker c.requires.hand s.safe (search rules) mid removed c.pop_call-over.ensures.map c.in-Some.above c.in-Some.is in
    subst (λ (x : Activation). HasResult (length x.frame.registers.items) (taker_of x.frame.waits)) same has)

pub returns-clause-steps : goal.returns-clause-steps
returns-clause-steps c = λ m shown safe.
    let prog = c.args.program.now in
    let places = c.args.places.now in
    let k = c.args.self.now in
    let w = c.args.worker in
    let over = c.pop_call-over.result in
    let stands = c.pop_call-over.ensures.value in
    let item = c.requires.item over stands in
    let hand = c.requires.hand in
    let within : w < length k.hands.items = search rules in
    let mid = c.pop_call-over.new.self in
    let removed = c.pop_call-over.ensures.rest in
    let shrinks = c.pop_call-over.ensures.map in
    let number = c.returned-number.result in
    let gives = number_is prog places k c.args.slot over stands m shown c.args.value item w hand safe number c.returned-number.ensures in
    let kept : record c.set_hand.new.self { cactus = c.keep.new.self } ≡ c.set_hand.new.self = λ i. record c.set_hand.new.self { cactus = c.keep.ensures i } in
    let end : (x : Run) (o : Option ℕ) → c.match-over.self ≡ x → over.parent ≡ o → LeadsTo prog places k (handed x w o) w m → LeadsTo prog places k (record c.set_hand.new.self { cactus = c.keep.new.self }) w m =
    λ x o is parent leads. subst (λ (y : Run). LeadsTo prog places k y w m) (sym (kept ∙ (c.set_hand.ensures ∙ (λ i. handed (is i) w (parent i))))) leads in
    elim c.match-over.branch [
      | in-Some+in-Some-frame_mut b ↦ end _ _ b.self-is b.in-Some.is
          (goes_on prog places k c.args.slot over stands m shown c.args.value item w hand safe within mid removed shrinks b.in-Some.above b.in-Some.is number b.in-Some-frame_mut.caller.now b.take_result.new.self
          (found_above prog places k c.args.slot over stands m shown (safe []).tree mid removed b.in-Some.above b.in-Some.is b.in-Some-frame_mut.caller.now (sym b.frame_mut.ensures.value ∙ ap option_copied_mut b.in-Some-frame_mut.is))
          gives b.take_result.ensures.only b.take_result.ensures.frame b.take_result.ensures.registers b.take_result.ensures.shown)
      | in_default+then-is_some b ↦ end _ _ b.self-is b.in_default.is
          (run_ends prog places k c.args.slot over stands m shown c.args.value item w hand safe within mid removed shrinks b.in_default.is number
          (root_result number k.result gives (sym b.is_some.ensures ∙ b.if-is_some.true)))
      | in_default+else-is_some b ↦ end _ _ b.self-is b.in_default.is
          (run_ends prog places k c.args.slot over stands m shown c.args.value item w hand safe within mid removed shrinks b.in_default.is k.result
          (no_result number k.result gives (sym b.is_some.ensures ∙ b.if-is_some.false)))
    ]

pub returns-clause-stalls : goal.returns-clause-stalls
returns-clause-stalls c = λ m shown safe.
    let prog = c.args.program.now in
    let places = c.args.places.now in
    let k = c.args.self.now in
    let w = c.args.worker in
    let over = c.pop_call-over.result in
    let stands = c.pop_call-over.ensures.value in
    let mid = c.pop_call-over.new.self in
    let removed = c.pop_call-over.ensures.rest in
    let none = last_notes prog places k c.args.slot over stands m shown w c.requires.hand mid c.args.slot removed in
    let kept : record c.set_hand.new.self { cactus = c.keep.new.self } ≡ c.set_hand.new.self = λ i. record c.set_hand.new.self { cactus = c.keep.ensures i } in
    let end : (x : Run) → c.match-over.self ≡ x → NotesStalls (Step w) m k.cactus x.cactus true → NotesStalls (Step w) m k.cactus c.keep.new.self true =
    λ x is h. subst (λ (y : Run). NotesStalls (Step w) m k.cactus y.cactus true) (sym (kept ∙ (c.set_hand.ensures ∙ (λ i. handed (is i) w over.parent)))) h in
    elim c.match-over.branch [
      | in-Some+in-Some-frame_mut b ↦ end _ b.self-is
          (end_notes prog places k c.args.slot over stands m shown w c.requires.hand mid c.args.slot removed b.in-Some.above b.take_result.new.self
          (λ n here last h. run_free b.take_result.new.self w (ap (λ (x : Activation). x.runner) b.take_result.ensures.only) last))
      | in_default+then-is_some b ↦ end _ b.self-is none
      | in_default+else-is_some b ↦ end _ b.self-is none
    ]

pub returns-clause-follows : goal.returns-clause-follows
returns-clause-follows c =
    let k = c.args.self.now in
    let mid = c.pop_call-over.new.self in
    let removed = c.pop_call-over.ensures.rest in
    let none = removed_follows k.cactus mid c.args.slot removed in
    let kept : record c.set_hand.new.self { cactus = c.keep.new.self } ≡ c.set_hand.new.self = λ i. record c.set_hand.new.self { cactus = c.keep.ensures i } in
    let end : (x : Run) → c.match-over.self ≡ x → Follows k.cactus x.cactus → Follows k.cactus c.keep.new.self =
    λ x is h. subst (λ (y : Run). Follows k.cactus y.cactus) (sym (kept ∙ (c.set_hand.ensures ∙ (λ i. handed (is i) c.args.worker c.pop_call-over.result.parent)))) h in
    elim c.match-over.branch [
      | in-Some+in-Some-frame_mut b ↦ end _ b.self-is (end_follows k.cactus mid c.args.slot removed b.in-Some.above b.take_result.new.self)
      | in_default+then-is_some b ↦ end _ b.self-is none
      | in_default+else-is_some b ↦ end _ b.self-is none
    ]

pub set_hand-requires : goal.set_hand-requires
set_hand-requires c =
    let same : c.match-over.self.hands ≡ c.args.self.now.hands = elim c.match-over.branch [
      | in-Some+in-Some-frame_mut b ↦ ap (λ (x : Run). x.hands) b.self-is
      | in_default+then-is_some b ↦ ap (λ (x : Run). x.hands) b.self-is
      | in_default+else-is_some b ↦ ap (λ (x : Run). x.hands) b.self-is
    ] in
    subst (λ (hands : Vec (Option ℕ) Global). c.args.worker < vec_len hands) (sym same) c.requires.worker

pub returns-clause-workers : goal.returns-clause-workers
returns-clause-workers c =
    let same : c.match-over.self.hands ≡ c.args.self.now.hands = elim c.match-over.branch [
      | in-Some+in-Some-frame_mut b ↦ ap (λ (x : Run). x.hands) b.self-is
      | in_default+then-is_some b ↦ ap (λ (x : Run). x.hands) b.self-is
      | in_default+else-is_some b ↦ ap (λ (x : Run). x.hands) b.self-is
    ] in
    ap (λ (x : Run). length x.hands.items) c.set_hand.ensures ∙ (as_many_hands c.match-over.self.hands c.args.worker c.pop_call-over.result.parent ∙ ap (λ (hands : Vec (Option ℕ) Global). length hands.items) same)

pub returns-clause-moves : goal.returns-clause-moves
returns-clause-moves c =
    let same : c.match-over.self.moves ≡ c.args.self.now.moves = elim c.match-over.branch [
      | in-Some+in-Some-frame_mut b ↦ ap (λ (x : Run). x.moves) b.self-is
      | in_default+then-is_some b ↦ ap (λ (x : Run). x.moves) b.self-is
      | in_default+else-is_some b ↦ ap (λ (x : Run). x.moves) b.self-is
    ] in
    ap (λ (x : Run). x.moves) c.set_hand.ensures ∙ same
