-- What a subscriber sends: the command that requests its stream, and statuses: PostgreSQL 15, 55.4. Streaming
-- Replication Protocol (START_REPLICATION, Standby status update).
use Rattle.std.specs.Prelude.{ℕ, List, [], ◌∷◌, ◌++◌, map, slice_get, Option, Some, None}
use Rattle.filter_tree.specs.Expr.{Expr}
use Rattle.pub_catalog.specs.Catalogs.{CatalogOf, PublicationOf}
use Rattle.pub_catalog.specs.declared.catalog.Subscription.{Subscription}
use Rattle.shard_checker.specs.CheckedView.{CheckedOf}
use Rattle.copy_frames.specs.Contents.{status_body}
use Rattle.copy_frames.specs.Frames.{framed}
use Rattle.copy_frames.specs.declared.frame.Frame.{Frame}
use Rattle.copy_frames.specs.declared.status.Status.{Status}
use Rattle.test_subscriber.specs.StartQuery.{start_text}
use Rattle.stream_laws.specs.Cutting.{whole_by}

-- the command that requests its stream at a position, and statuses
pub data Up : Type 0 where
  Asks : ℕ → Up
  Says : Status → Up

abbrev pub subscription_name : Option Subscription → List ℕ
subscription_name None = []
subscription_name (Some subscription) = subscription.name

abbrev pub publications_taken : Option Subscription → List ℕ
publications_taken None = []
publications_taken (Some subscription) = subscription.publications

abbrev pub publication_name : Option (PublicationOf Expr) → List ℕ
publication_name None = []
publication_name (Some publication) = publication.name

-- by the name of its slot, which is that of its subscription, and its publications
abbrev pub start_of : CatalogOf Expr → ℕ → ℕ → List ℕ
start_of catalog subscriber position =
    start_text (subscription_name (slice_get catalog.subscriptions subscriber))
    (map (λ number. publication_name (slice_get catalog.publications number))
    (publications_taken (slice_get catalog.subscriptions subscriber))) position

abbrev pub up_frame : CheckedOf → ℕ → Up → Frame
up_frame checked subscriber (Asks position) =
    record { kind = 81; body = start_of checked.catalog subscriber position ++ (0 ∷ []) }
up_frame checked subscriber (Says status) = record { kind = 100; body = status_body status }

abbrev pub spelled_up : CheckedOf → ℕ → Up → List ℕ
spelled_up checked subscriber up = framed (up_frame checked subscriber up)

-- those whose frames are whole in this number of bytes
abbrev pub whole_up : CheckedOf → ℕ → ℕ → List Up → List Up
whole_up checked subscriber count ups = whole_by (up_frame checked subscriber) count ups
