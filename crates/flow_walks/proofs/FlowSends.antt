-- Laws of a send's flow: what each branch makes of the table, and a send after the counter has moved.
use Prim.Native.Nat.{ℕ, ◌≤◌, ◌<◌}
use native.Mathlib.Omega.{arith}
use mathlib.Core.Path.{◌≡◌, sym, ap, subst, ◌∙◌}
use mathlib.Core.Bool.{Bool}
use mathlib.Core.List.{List}
use borrow.Author.Tests.{lt-ltb, le-ltb}
use lib.ListN.{length, get_or, set}
use Rattle.std.specs.Prelude.{Err, None, Ok, Option, Result, Some}
use Rattle.config.specs.Config.{flow_count}
use Rattle.octets.specs.Pick.{pick}
use Rattle.octets.specs.Find.{find}
use Rattle.octets.proofs.Bools.{bool_cases}
use Rattle.mctp.specs.declared.Eid.{Eid}
use Rattle.mctp.specs.declared.TagValue.{TagValue}
use Rattle.mctp.specs.declared.Error.TheVariants.{InvalidInput, BadArgument, TagUnavailable}
use Rattle.flows.specs.declared.Flow.{Flow}
use Rattle.flows.specs.Tags.{free_tag_of}
use Rattle.flows.specs.Table.{Table, Flowed, no_flow, is_free, flow_place, used_tags, lasts, new_flow, counted, insert_flow, turned, with_tag, fresh_flow, fixed_flow, set_flow}
use Rattle.flows.proofs.TagLaws.{Told, searched}
use Rattle.state.specs.declared.Sizes.{Sizes}
use Rattle.state.specs.Stack.{Stack, Kept, Becomes, stack_of, flow_at}
use Rattle.state.proofs.StackLaws.{flows_length, stays, and_then}
use Rattle.flow_walks.specs.FlowWalks.{table_of, with_table}
use Rattle.mctp.specs.declared.AppCookie.{AppCookie}
use Rattle.mctp.specs.declared.Error.{Error}

-- the bytes b become b', which hold the table of r, and g is what r grants
abbrev pub Sent : Sizes → List ℕ → List ℕ → Stack → Result TagValue Error → Flowed → Type 0
Sent z b b' st g r = (g ≡ r.granted) × Becomes z b b' (with_table r.table st)

-- the same, written in another way
pub sent_as : (z : Sizes) (b b' : List ℕ) (st : Stack) (g : Result TagValue Error) (r s : Flowed) → r ≡ s → Sent z b b' st g r → Sent z b b' st g s
sent_as z b b' st g r s e h = subst (λ (x : Flowed). Sent z b b' st g x) e h

-- a send after another store
pub sent_then : (z : Sizes) (b x y : List ℕ) (st : Stack) (g : Result TagValue Error) (f : Table → Flowed) → Becomes z b x st
    → Sent z x y (stack_of z x) g (f (table_of (stack_of z x))) → Sent z b y st g (f (table_of st))
sent_then z b x y st g f p q =
    (q.0 ∙ ap (λ (s : Stack). (f (table_of s)).granted) p.view, and_then z (λ (s : Stack). with_table (f (table_of s)).table s) b x y st p q.1)

-- a tag that the search finds is one of the eight
pub free_small : (used start : ℕ) (t : TagValue) → free_tag_of used start ≡ Some t → t.0 < 8
free_small used start t e = (subst (Told used start) e (searched used start)).below

module _ (peer : Eid) (tag : TagValue) (expires : Bool) (cookie : Option AppCookie) (t : Table) where
  pub insert_room : find is_free t.flows < length t.flows → insert_flow peer tag expires cookie t ≡ record {
    table = record {
      flows = set t.flows (find is_free t.flows) (new_flow peer tag expires cookie (counted expires t.now));
      now = counted expires t.now;
      counter = t.counter;
    };
    granted = Ok tag;
  }
  unfolding insert_flow pick
  insert_room h = rw (lt-ltb (find is_free t.flows) (length t.flows) h)

  pub insert_full : length t.flows ≤ find is_free t.flows
      → insert_flow peer tag expires cookie t ≡ record { table = record { flows = t.flows; now = counted expires t.now; counter = t.counter }; granted = Err TagUnavailable }
  unfolding insert_flow pick
  insert_full h = rw (le-ltb (find is_free t.flows) (length t.flows) h)

  fixed_stands : flow_place peer tag t.flows < length t.flows
      → fixed_flow peer tag expires cookie t ≡ record { table = t; granted = pick (lasts (get_or t.flows (flow_place peer tag t.flows) no_flow)) (Ok tag) (Err BadArgument) }
  unfolding fixed_flow pick
  fixed_stands h =
      rw (lt-ltb (flow_place peer tag t.flows) (length t.flows) h)
      (bool_cases (lasts (get_or t.flows (flow_place peer tag t.flows) no_flow)) (λ e. rw e) (λ e. rw e))

  pub fixed_new : length t.flows ≤ flow_place peer tag t.flows → fixed_flow peer tag expires cookie t ≡ insert_flow peer tag expires cookie t
  unfolding fixed_flow pick
  fixed_new h = rw (le-ltb (flow_place peer tag t.flows) (length t.flows) h)

  pub fresh_found : free_tag_of (used_tags peer t.flows) (turned t).counter ≡ Some tag
      → fresh_flow peer expires cookie t ≡ insert_flow peer tag expires cookie (turned t)
  unfolding fresh_flow with_tag
  fresh_found e = rw e

  pub set_fixed : (wish : Option TagValue) → wish ≡ Some tag → tag.0 ≤ 7 → set_flow peer wish expires cookie t ≡ fixed_flow peer tag expires cookie t
  unfolding set_flow pick
  set_fixed wish e h = rw (e, le-ltb 7 tag.0 h)

  pub set_high : (wish : Option TagValue) → wish ≡ Some tag → 7 < tag.0 → set_flow peer wish expires cookie t ≡ record { table = t; granted = Err InvalidInput }
  unfolding set_flow pick
  set_high wish e h = rw (e, lt-ltb 7 tag.0 h)

module _ (peer : Eid) (expires : Bool) (cookie : Option AppCookie) (t : Table) where
  pub fresh_none : free_tag_of (used_tags peer t.flows) (turned t).counter ≡ None
      → fresh_flow peer expires cookie t ≡ record { table = turned t; granted = Err TagUnavailable }
  unfolding fresh_flow with_tag
  fresh_none e = rw e

  pub set-fresh : (wish : Option TagValue) → wish ≡ None → set_flow peer wish expires cookie t ≡ fresh_flow peer expires cookie t
  unfolding set_flow
  set-fresh wish e = rw e

-- the flow found at i stands: it is used again or refused, and nothing is stored
pub fixed_found : (z : Sizes) (b : List ℕ) (k : Kept z b) (peer : Eid) (tag : TagValue) (expires : Bool) (cookie : Option AppCookie) (i : ℕ) (f : Flow) (l : Bool) (g : Result TagValue Error)
    → i ≡ flow_place peer tag (stack_of z b).flows → i < flow_count → f ≡ flow_at i (stack_of z b) → l ≡ lasts f → g ≡ pick l (Ok tag) (Err BadArgument)
    → Sent z b b (stack_of z b) g (fixed_flow peer tag expires cookie (table_of (stack_of z b)))
fixed_found z b k peer tag expires cookie i f l g at below is by says =
    let st = stack_of z b in
    let h : flow_place peer tag st.flows < length st.flows = omega (arith, flows_length z b) in
    let e = by ∙ ap (λ (x : Flow). lasts x) (is ∙ ap (λ (j : ℕ). flow_at j st) at) in
    sent_as z b b st g _ _ (sym (fixed_stands peer tag expires cookie (table_of st) h)) (says ∙ ap (λ (x : Bool). pick x (Ok tag) (Err BadArgument)) e, stays z b k)
