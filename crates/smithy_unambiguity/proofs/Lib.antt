pub mod Common
pub mod BodyObject
pub mod ByMember
pub mod ByName
pub mod Conforming
mod Conformity
pub mod Cuts
pub mod Defaults
pub mod EntriesTold
pub mod Firsts
pub mod Fits
pub mod HeaderNames
pub mod HeaderTexts
pub mod Headers
pub mod HeadersTold
pub mod Holes
mod Join
pub mod LabelFirst
pub mod Labels
pub mod LastTexts
pub mod Lists
pub mod MapsTold
pub mod MemberTexts
pub mod Members
pub mod PairLemmas
pub mod Paths
pub mod PayloadTold
pub mod Placed
pub mod Positions
pub mod Queries
pub mod QueryNames
pub mod Requests
pub mod Reserved
mod Setting
pub mod Settled
pub mod Singles
pub mod Sound
mod SoundMaps
pub mod TargetTold
pub mod TemplateQuery
pub mod TextsBytes
mod Totals
pub mod Traits
pub mod UnboundTold
pub mod Values
pub mod ViewBody
mod ViewDocument
mod ViewHeaders
mod ViewParts
mod ViewSeen
mod ViewTarget
mod ViewTold
pub mod ViewTyped
pub mod ViewValues
pub mod ViewWrites
pub mod Viewed
mod ViewedMaps
pub mod ViewedMembers
mod WellMadeNodes
