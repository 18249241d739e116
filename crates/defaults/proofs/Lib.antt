pub mod DefaultFields
