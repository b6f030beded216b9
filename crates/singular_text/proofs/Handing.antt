-- Faults that are handed on.
use Rattle.std.proofs.Common.{◌≡◌, ℕ, refl, sym, ap, subst, Result, Ok, Err}
use Rattle.std.specs.Prelude.{IsErrAnd, Option, None, Some, is_none, Bool, true, false}
use Rattle.polys.specs.Poly.{Polynomial}
use Rattle.singular_text.specs.declared.evaluation.Frame.{Frame}
use Rattle.singular_text.specs.declared.faults.ReadFault.{ReadFault}
use Rattle.singular_text.specs.declared.faults.ReadFault.TheVariants.{Syntax, Characteristic, Limit, Memory}
use Rattle.singular_text.specs.Evaluating.{IsFault, IsReadAs, and_then, close, sign_step_by, signed_frame}

pub fault_through : {A B : Type 0} (fault : ReadFault) (r : Result A ReadFault) (next : A → Result B ReadFault) → IsFault fault r → IsFault fault (and_then r next)
fault_through Syntax r next is = ap (λ s. and_then s next) is
fault_through Characteristic r next is = ap (λ s. and_then s next) is
fault_through (Limit which) r next is = ap (λ s. and_then s next) is
fault_through Memory r next is = tt

pub ok_through : {A B X : Type 0} (view : X → B) (result : Result X ReadFault) (r : Result A ReadFault) (x : A) (next : A → Result B ReadFault) → r ≡ Ok x → IsReadAs view result (next x)
    → IsReadAs view result (and_then r next)
ok_through {A} {B} {X} view result r x next is agrees = let P : Result A ReadFault → Type 0 = λ (s : Result A ReadFault). IsReadAs view result (and_then s next) in subst P (sym is) agrees

-- the exit of a `?`
pub handed_on : {X Y : Type 0} (view : X → Y) (result : Result X ReadFault) (fault : ReadFault) (read : Result Y ReadFault) → IsErrAnd result (λ y. y ≡ fault) → IsFault fault read
    → IsReadAs view result read
handed_on view (Ok x) fault read handed is = absurd handed
handed_on view (Err y) fault read handed is = let P : ReadFault → Type 0 = λ (f : ReadFault). IsFault f read in subst P (sym handed) is

-- a sign behind a factor ends an expression
pub sign_behind : (factor : Option Polynomial) (p : ℕ) (frame : Frame) (is_negative : Bool) → is_none factor ≡ false
    → sign_step_by factor p frame is_negative ≡ and_then (close p frame) (λ e. Ok (signed_frame (Some e) is_negative))
sign_behind None p frame is_negative some = absurd (cc)
sign_behind (Some f) p frame is_negative some = refl

pub sign_first : (factor : Option Polynomial) (p : ℕ) (frame : Frame) (is_negative : Bool) → is_none factor ≡ true
    → sign_step_by factor p frame is_negative ≡ Ok (signed_frame None is_negative)
sign_first None p frame is_negative none = refl
sign_first (Some f) p frame is_negative none = absurd (cc)
