use Rattle.std.proofs.Common.{rules, ◌≡◌, ◌<◌, ℕ, length, Some, None, FitsSigned, to_z, of_z, pos, ◌∷◌, List, sym, ap, ◌∙◌, subst, refl}
use Rattle.std.specs.Prelude.{Result, Ok, Err, IfOk}
use Rattle.std.specs.Int.{w64, cast_signed}
use Rattle.std.proofs.lemmas.Int.{to_z-of_z}
use Rattle.lists.specs.declared.memory.OutOfMemory.{OutOfMemory}
use Rattle.semantics.specs.Paths.{Path}
use Rattle.semantics.specs.Frames as frames
use Rattle.semantics.specs.Frames.{Value}
use Rattle.semantics.specs.Effect.{argument_values}
use Rattle.semantics.specs.State.{called}
use Rattle.program.specs.declared.identifier.FunctionId.{FunctionId}
use Rattle.program.specs.declared.instruction.Argument.{Argument}
use Rattle.frame.specs.declared.frame.Role.TheVariants as role
use Rattle.frame.specs.declared.frame.Wait.TheVariants as wait
use Rattle.frame_engine.specs.declared.activation.Frame.{Frame}
use Rattle.frame_engine.specs.declared.activation.Places.{Places}
use Rattle.frame_engine.specs.Activation.{ShowsFrame, allocas_of}
use Rattle.frame_engine.specs.Arguments.{ArgumentsAreWhole}
use Rattle.frame_engine.specs.Shows.{Layout, PointsAlike, ShowsBases}
use Rattle.frame_engine.specs.Words.{bases}
use Rattle.schedule_workers.specs.declared.activation.Activation.{Activation}
use Rattle.schedule_workers.specs.Calls.{IsCallee}
use Rattle.schedule_workers.specs.Scheduling.{counted_in}
use Rattle.schedule_workers.proofs.activation.Activation.callee_of.Goals as goal

small_address : (start : ℕ) → start < 9223372036854775808 → cast_signed w64 start ≡ pos start
small_address start small = search (rules, small)

-- what waits, and for whom, is not shown
as_body : (l : Layout) (places : Places) (p : Path) (g : frames.Frame) (f : Frame) → g.role ≡ frames.Body → ShowsFrame l places p g f → ShowsFrame l places p g (record f { role = role.Body; waits = wait.Nothing })
as_body l places p g f body t = record { function = t.function; block = t.block; index = t.index; made = t.made; role = body; depth = t.depth; bases = t.bases; registers = t.registers }

callee_is : (places : Places) (caller : Frame) (worker : ℕ) (callee : FunctionId) (count : ℕ) (arguments : List Argument) (start : ℕ) (frame : Frame) →
    length frame.registers.items ≡ count → frame.function ≡ callee → frame.home ≡ pos start → frame.role ≡ role.Body → frame.waits ≡ wait.Nothing →
    ((l k : Layout) (p : Path) (g : frames.Frame) (values : List Value) → ShowsFrame l places p g caller → ArgumentsAreWhole g arguments →
    argument_values g arguments ≡ Some values → PointsAlike l k values → ShowsBases k (bases places.globals (allocas_of places callee.0) (pos start)) (g.made ∷ p) →
    ShowsFrame k places (g.made ∷ p) (called p g callee.0 values) frame) →
    (r : Result Activation OutOfMemory) → IfOk r (λ (a : Activation). a ≡ record { frame = frame; counts = a.counts; callee = None; runner = Some worker; stalled_in = None }) →
    IfOk r (λ (a : Activation). (region : ℕ) → counted_in a region ≡ 0) → IfOk r (λ (a : Activation). length a.counts.items ≡ length frame.registers.items) →
    IfOk r (IsCallee places caller worker callee count arguments start)
callee_is places caller worker callee count arguments start frame registers function home body waits shown (Err e) is none as_many = tt
callee_is places caller worker callee count arguments start frame registers function home body waits shown (Ok a) is none as_many =
    let same : a.frame ≡ frame = ap (λ (x : Activation). x.frame) is in
    record {
      is = is ∙ (λ i. record { frame = sym same i; counts = a.counts; callee = None; runner = Some worker; stalled_in = None });
      none = none;
      as_many = as_many ∙ registers;
      registers = ap (λ (f : Frame). length f.registers.items) same ∙ registers;
      function = ap (λ (f : Frame). f.function) same ∙ function;
      home = ap (λ (f : Frame). f.home) same ∙ home;
      role = ap (λ (f : Frame). f.role) same ∙ body;
      waits = ap (λ (f : Frame). f.waits) same ∙ waits;
      shown = λ l k p g values s whole passed alike begins. subst (λ f. ShowsFrame k places (g.made ∷ p) (called p g callee.0 values) f) (sym same) (shown l k p g values s whole passed alike begins);
    }

pub returns : goal.returns
returns c =
    let places = c.args.places.now in
    let function = c.args.call.callee in
    let fit : FitsSigned w64 c.cast_signed.result = search rules in
    let at : to_z w64 (of_z w64 c.cast_signed.result) ≡ pos c.args.start = to_z-of_z w64 c.cast_signed.result fit ∙ c.cast_signed.ensures ∙ small_address c.args.start c.requires.start in
    callee_is places c.args.self.now.frame c.args.worker function c.args.registers c.args.call.arguments.now c.args.start (record c.call_into.new.callee { role = role.Body; waits = wait.Nothing })
    c.in_ok-call_into.ensures.registers c.in_ok-call_into.ensures.function (c.in_ok-call_into.ensures.home ∙ at) refl refl
    (λ l k p g values s whole passed alike begins. as_body k places (g.made ∷ p) (called p g function.0 values) c.call_into.new.callee refl
    (c.in_ok-call_into.ensures.shown l k p g values s whole passed alike (subst (λ z. ShowsBases k (bases places.globals (allocas_of places function.0) z) (g.made ∷ p)) (sym at) begins)))
    c.new.result c.new.ensures.is c.new.ensures.none c.new.ensures.as_many
