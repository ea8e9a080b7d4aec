-- An entry more.
use Rattle.std.proofs.Common.{◌≡◌, ℕ, ◌+◌, ◌≤◌, ◌<◌, get_or, take, List, [], ◌∷◌, ◌++◌, sym, ap, ◌∙◌, append_assoc, append-nil, length, length-append, replicate, arith}
use Rattle.std.proofs.lemmas.List.{length-replicate, replicate-append-replicate, take_more}
use Rattle.frame.specs.declared.event.Event.{Event}
use Rattle.frame.specs.declared.event.Event.TheVariants as event
use Rattle.shared_run.specs.declared.history.Entry.{Entry}
use Rattle.shared_run.specs.declared.history.Entry.TheVariants.{Steps}
use Rattle.shared_run.specs.declared.history.Keeping.{Keeping}
use Rattle.shared_run.specs.declared.history.Keeping.TheVariants as keeping
use Rattle.shared_run.specs.Spelled.{spelled, events_of}

pub spelled_push : (es : List Entry) (e : Entry) → spelled (es ++ e ∷ []) ≡ spelled es ++ events_of e
spelled_push [] e = append-nil (events_of e)
spelled_push (x ∷ es) e = ap (λ l. events_of x ++ l) (spelled_push es e) ∙ sym (append_assoc (events_of x) (spelled es) (events_of e))

pub length_push : (es : List Entry) (e : Entry) → length (spelled (es ++ e ∷ [])) ≡ length (spelled es) + length (events_of e)
length_push es e = ap length (spelled_push es e) ∙ length-append (spelled es) (events_of e)

-- steps that are taken off and put back with others behind them
pub steps_again : (old new after : List Entry) (worker before count : ℕ) → spelled old ≡ spelled new ++ replicate before (event.Step worker) → after ≡ new ++ Steps worker (before + count) ∷ [] →
    spelled after ≡ spelled old ++ replicate count (event.Step worker)
steps_again old new after worker before count taken is =
    ap spelled is ∙ (spelled_push new (Steps worker (before + count))
    ∙ (ap (λ l. spelled new ++ l) (sym (replicate-append-replicate before count (event.Step worker)))
    ∙ (sym (append_assoc (spelled new) (replicate before (event.Step worker)) (replicate count (event.Step worker)))
    ∙ ap (λ l. l ++ replicate count (event.Step worker)) (sym taken))))

-- no more steps are taken off than there were events
pub taken_few : (old new : List Entry) (worker before : ℕ) → spelled old ≡ spelled new ++ replicate before (event.Step worker) → before ≤ length (spelled old)
taken_few old new worker before taken =
    let e = ap length taken in
    omega (arith, e, length-append (spelled new) (replicate before (event.Step worker)), length-replicate before (event.Step worker))

pub length_steps : (old after : List Entry) (worker count : ℕ) → spelled after ≡ spelled old ++ replicate count (event.Step worker) → length (spelled after) ≡ length (spelled old) + count
length_steps old after worker count is =
    let e = ap length is in
    omega (arith, e, length-append (spelled old) (replicate count (event.Step worker)), length-replicate count (event.Step worker))

-- the events of the next entry are added to those of the entries before it
pub spelled_next : (es : List Entry) (i : ℕ) (e : Entry) (now new : List Event) → i < length es → e ≡ get_or es i e → now ≡ spelled (take i es) → new ≡ now ++ events_of e → new ≡ spelled (take (i + 1) es)
spelled_next es i e now new low read before is =
    is ∙ (ap (λ l. l ++ events_of e) before
    ∙ (sym (spelled_push (take i es) e) ∙ ap spelled (ap (λ x. take i es ++ x ∷ []) read ∙ sym (take_more es i e low))))

-- an entry more, where events are kept
pub grown : (k : Keeping) (total count : ℕ) (entries more story after : List Entry) (e : Entry) → (total ≡ length (spelled story)) × (k ≡ keeping.Events → spelled entries ≡ spelled story) →
    after ≡ story ++ e ∷ [] → length (events_of e) ≡ count → spelled more ≡ spelled entries ++ events_of e →
    (total + count ≡ length (spelled after)) × (k ≡ keeping.Events → spelled more ≡ spelled after)
grown k total count entries more story after e (sum, alike) is long grew = (
  let all = ap (λ l. length (spelled l)) is ∙ length_push story e in omega (arith, sum, long, all),
  λ events. grew ∙ (ap (λ l. l ++ events_of e) (alike events) ∙ (sym (spelled_push story e) ∙ ap spelled (sym is))),
)

-- and where they are not
pub told : (k : Keeping) (total count : ℕ) (entries story after : List Entry) (e : Entry) → (total ≡ length (spelled story)) × (k ≡ keeping.Events → spelled entries ≡ spelled story) →
    after ≡ story ++ e ∷ [] → length (events_of e) ≡ count → k ≡ keeping.Nothing →
    (total + count ≡ length (spelled after)) × (k ≡ keeping.Events → spelled entries ≡ spelled after)
told k total count entries story after e (sum, alike) is long none = (
  let all = ap (λ l. length (spelled l)) is ∙ length_push story e in omega (arith, sum, long, all),
  λ events. absurd (let both : keeping.Nothing ≡ keeping.Events = sym none ∙ events in cc),
)
