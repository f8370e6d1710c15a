-- docs/RULES.md 52 to 58: the table as a list of places, keyed by peer and tag.
-- What a send, a removal and a check of time make of it.
-- Leans on `find`, on `stamp` for events, on specs/Tags.antt for the search of a free tag.
use Rattle.std.specs.Prelude.{ℕ, ◌+◌, ◌%◌, ◌≡◌, Bool, true, false, not, List, ltb, length, get_or, set, Err, None, Ok, Option, Result, Some}
use Rattle.config.specs.Config.{flow_time}
use Rattle.octets.specs.Pick.{pick}
use Rattle.octets.specs.Find.{find}
use Rattle.mctp.specs.declared.Eid.{Eid}
use Rattle.mctp.specs.declared.TagValue.{TagValue}
use Rattle.mctp.specs.declared.Error.TheVariants.{InvalidInput, BadArgument, TagUnavailable}
use Rattle.mctp.specs.Terms.{same_eid, same_tag}
use Rattle.stamp.specs.declared.EventStamp.{EventStamp}
use Rattle.stamp.specs.declared.Timeout.{Timeout}
use Rattle.stamp.specs.declared.Timeout.TheVariants.{Untimed}
use Rattle.stamp.specs.Stamp.{next, timeout_of, is_expired}
use Rattle.flows.specs.declared.Flow.{Flow}
use Rattle.flows.specs.Tags.{free_tag_of, bits_of}
use Rattle.mctp.specs.declared.AppCookie.{AppCookie}
use Rattle.mctp.specs.declared.Error.{Error}

-- a place that holds no flow
abbrev pub no_flow : Flow
no_flow = record { used = false; peer = record { 0 = 0 }; tag = record { 0 = 0 }; cookie = None; expiry = None }

abbrev pub is_free : Flow → Bool
is_free f = not f.used

-- whether it is the flow of that peer and tag
unfoldable pub is_flow : Eid → TagValue → Flow → Bool
is_flow peer tag f = pick f.used (pick (same_eid f.peer peer) (same_tag f.tag tag) false) false

abbrev pub flow_place : Eid → TagValue → List Flow → ℕ
flow_place peer tag flows = find (is_flow peer tag) flows

-- each peer and tag has at most one place
unfoldable pub Unique : List Flow → Type 0
Unique flows =
    (peer : Eid) (tag : TagValue) (i j : ℕ) → is_flow peer tag (get_or flows i no_flow) ≡ true → is_flow peer tag (get_or flows j no_flow) ≡ true → i ≡ j

-- whether a flow of that peer and tag stands
abbrev pub standing : Eid → TagValue → List Flow → Bool
standing peer tag flows = ltb (flow_place peer tag flows) (length flows)

-- its cookie
abbrev pub flow_cookie : Eid → TagValue → List Flow → Option AppCookie
flow_cookie peer tag flows = (get_or flows (flow_place peer tag flows) no_flow).cookie

-- the flows without that of a peer and tag; where there is none they stay as they are
abbrev pub removed : Eid → TagValue → List Flow → List Flow
removed peer tag flows = set flows (flow_place peer tag flows) no_flow

-- the used-tag byte: bit t is set exactly when a flow of that peer and tag t stands
abbrev pub used_tags : Eid → List Flow → ℕ
used_tags peer flows = bits_of (λ t. standing peer (record { 0 = t }) flows) 0 8

abbrev pub lasts_by : Option EventStamp → Bool
lasts_by None = true
lasts_by (Some s) = false

abbrev pub lasts : Flow → Bool
lasts f = lasts_by f.expiry

unfoldable pub new_flow : Eid → TagValue → Bool → Option AppCookie → EventStamp → Flow
new_flow peer tag expires cookie stamp =
    pick expires (record { used = true; peer = peer; tag = tag; cookie = cookie; expiry = Some stamp })
    (record { used = true; peer = peer; tag = tag; cookie = cookie; expiry = None })

-- what a send looks at and changes: the flows, the last event's stamp, the tag counter
pub record Table : Type 0 where
  pub flows : List Flow
  pub now : EventStamp
  pub counter : ℕ

-- the table after a send has looked at it, and the tag or the refusal that the send gets
pub record Flowed : Type 0 where
  pub table : Table
  pub granted : Result TagValue Error

-- a new flow that expires counts an event
abbrev pub counted : Bool → EventStamp → EventStamp
counted expires now = pick expires (next now) now

-- a new flow goes to the first free place; the event counts even when the table is full
unfoldable pub insert_flow : Eid → TagValue → Bool → Option AppCookie → Table → Flowed
insert_flow peer tag expires cookie t =
    pick (ltb (find is_free t.flows) (length t.flows))
    (record {
      table = record {
        flows = set t.flows (find is_free t.flows) (new_flow peer tag expires cookie (counted expires t.now));
        now = counted expires t.now;
        counter = t.counter;
      };
      granted = Ok tag;
    })
    (record { table = record { flows = t.flows; now = counted expires t.now; counter = t.counter }; granted = Err TagUnavailable })

-- the counter goes up by 1 modulo 8
abbrev pub turned : Table → Table
turned t = record { flows = t.flows; now = t.now; counter = (t.counter % 8 + 1) % 8 }

-- a new flow under the tag that the search found; where no tag is free it is TagUnavailable, and no event counts
unfoldable pub with_tag : Eid → Option TagValue → Bool → Option AppCookie → Table → Flowed
with_tag peer (Some tag) expires cookie t = insert_flow peer tag expires cookie t
with_tag peer None expires cookie t = record { table = t; granted = Err TagUnavailable }

-- a fresh tag: the counter goes up even if no tag is free, and the first free tag from there on is taken, 0 after 7
unfoldable pub fresh_flow : Eid → Bool → Option AppCookie → Table → Flowed
fresh_flow peer expires cookie t =
    with_tag peer (free_tag_of (used_tags peer t.flows) (turned t).counter) expires cookie (turned t)

-- a fixed owned tag: where its flow stands with an expiry it is BadArgument; where it stands without, it is used again and keeps its first cookie; where there
-- is none, it is inserted
unfoldable pub fixed_flow : Eid → TagValue → Bool → Option AppCookie → Table → Flowed
fixed_flow peer tag expires cookie t =
    pick (standing peer tag t.flows)
    (pick (lasts (get_or t.flows (flow_place peer tag t.flows) no_flow)) (record { table = t; granted = Ok tag })
    (record { table = t; granted = Err BadArgument }))
    (insert_flow peer tag expires cookie t)

-- a tag above 7 is InvalidInput, with nothing changed
unfoldable pub set_flow : Eid → Option TagValue → Bool → Option AppCookie → Table → Flowed
set_flow peer None expires cookie t = fresh_flow peer expires cookie t
set_flow peer (Some tag) expires cookie t =
    pick (ltb 7 tag.0) (record { table = t; granted = Err InvalidInput }) (fixed_flow peer tag expires cookie t)

-- time runs for a flow that has a stamp
abbrev pub time_by : ℕ → Option EventStamp → Timeout
time_by now None = Untimed
time_by now (Some s) = timeout_of s now flow_time

abbrev pub flow_timeout : ℕ → Flow → Timeout
flow_timeout now f = time_by now f.expiry

-- an expired flow goes, any other stays as it was
unfoldable pub faded_flow : ℕ → Flow → Flow
faded_flow now f = pick (is_expired (flow_timeout now f)) no_flow f
